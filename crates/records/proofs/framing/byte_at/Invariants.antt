-- The byte asked for, of what is then ahead, is the byte of the whole.
use Rattle.records.specs.Answer.{ahead_of}
use Rattle.mdf.specs.Records.{joined}
use lib.ListN.{get_or}
use mathlib.Core.Path.{◌≡◌}
use Prim.Native.Nat.{◌-◌}
use lib.ListN.{length}
use Rattle.records.proofs.framing.byte_at.Given as goal

abbrev pub invariant-loop-more : goal.invariant-loop-more
invariant-loop-more l =
    get_or (joined l.image (ahead_of l.image l.fragments l.spot)) l.more 0 ≡ get_or (joined l.image (ahead_of l.image l.fragments l.initial.spot)) l.initial.more 0

abbrev pub decreases-loop-more : goal.decreases-loop-more
decreases-loop-more l = length l.fragments - l.spot.at
