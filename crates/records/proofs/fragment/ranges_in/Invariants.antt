-- What is left of the check gives what the whole gives.
use Rattle.mdf.specs.Records.{ranges_in}
use Rattle.work_words.specs.Words.{fragments_of}
use Rattle.records.specs.Ahead.{fragments_from}
use mathlib.Core.Path.{◌≡◌}
use Prim.Native.Nat.{◌-◌, ◌≤◌}
use lib.ListN.{length}
use Rattle.records.proofs.fragment.ranges_in.Given as goal

abbrev pub invariant-loop-i : goal.invariant-loop-i
invariant-loop-i l =
    (l.i ≤ length l.fragments) × (ranges_in l.image (fragments_from l.fragments l.i) ≡ ranges_in l.image (fragments_of l.fragments))

abbrev pub decreases-loop-i : goal.decreases-loop-i
decreases-loop-i l = length l.fragments - l.i
