-- The same records are ahead of the place as of the first.
use Rattle.places.specs.FacingLaws.{Ahead}
use Prim.Native.Nat.{◌-◌}
use Rattle.places.proofs.frame.next_record.Given as goal

abbrev pub invariant-fragments : goal.invariant-fragments
invariant-fragments l =
    Ahead l.image l.n l.groups l.fragments l.c l.spot.at l.spot.position l.spot.left

abbrev pub decreases-fragments : goal.decreases-fragments
decreases-fragments l =
    l.words - l.spot.at
