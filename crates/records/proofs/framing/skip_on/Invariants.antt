-- What is left to skip of what is then ahead gives what the whole gives.
use Rattle.records.specs.Ahead.{spot_past}
use Rattle.records.specs.Answer.{ahead_of}
use mathlib.Core.Path.{◌≡◌}
use Prim.Native.Nat.{◌-◌, ◌≤◌}
use lib.ListN.{length}
use Rattle.records.proofs.framing.skip_on.Given as goal

abbrev pub invariant-loop-more : goal.invariant-loop-more
invariant-loop-more l =
    (l.spot.position ≤ 18446744073709551615)
    × (spot_past l.more (ahead_of l.image l.fragments l.spot) l.spot.at ≡ spot_past l.initial.more (ahead_of l.image l.fragments l.initial.spot) l.initial.spot.at)

abbrev pub decreases-loop-more : goal.decreases-loop-more
decreases-loop-more l = length l.fragments - l.spot.at
