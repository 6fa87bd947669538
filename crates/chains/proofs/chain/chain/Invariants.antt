-- The invariant: what is left of the chain gives what the whole chain gives. The room left among the DL and HL met is the measure.
use Rattle.chains.specs.TurnLaws.{Walking}
use Prim.Native.Nat.{◌-◌}
use Rattle.chains.specs.Node.{which, limits_for}
use Rattle.chains.proofs.chain.chain.Given as goal

abbrev pub invariant-loop-at : goal.invariant-loop-at
invariant-loop-at l =
    Walking (which l.signal) (limits_for l.file) l.image l.n l.a l.initial.fragments l.met l.k l.at l.count l.fragments

abbrev pub decreases-loop-at : goal.decreases-loop-at
decreases-loop-at l = 256 - l.k
