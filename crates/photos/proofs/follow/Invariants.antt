-- What is left of the chain gives what the whole gives.
use Prim.Native.Nat.{◌-◌}
use Rattle.photos.specs.FollowedLaws.{Following}
use Rattle.photos.proofs.follow.Given as goal

abbrev pub invariant-loop-met : goal.invariant-loop-met
invariant-loop-met l = Following l.image l.met l.at l.count

abbrev pub decreases-loop-met : goal.decreases-loop-met
decreases-loop-met l = 65 - l.count
