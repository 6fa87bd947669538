-- The invariant: what is left of the links gives what the whole list gives. The links left are the measure.
use Rattle.chains.specs.TurnLaws.{Listing}
use Rattle.chains.specs.Node.{which, limits_for}
use Rattle.chains.proofs.chain.Walk.list.Given as goal

abbrev pub invariant-loop-i : goal.invariant-loop-i
invariant-loop-i l = Listing (which l.self.signal) (limits_for l.self.file) l.image l.a l.n l.initial.fragments l.links l.i
    l.count l.fragments
