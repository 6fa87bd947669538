-- Each turn copies a fragment; what has no room is lost, and so is all after it.
use Rattle.std.proofs.Common.{◌≡◌, ◌-◌, ◌≤◌, length, refl, arith, rules}
use Rattle.base.specs.Blit.{blit}
use Rattle.work_words.specs.Words.{fragments_of}
use Rattle.mdf.specs.Records.{joined}
use Rattle.records.specs.Ahead.{fragments_from}
use Rattle.records.specs.FragmentLaws.{from_start}
use Rattle.writing.specs.SignalLaws.{copy_lost, copy_turn, copy_full, copy_end}
use Rattle.writing.proofs.signal.copy_all.Given as goal

abbrev pub invariant-loop-i : goal.invariant-loop-i
invariant-loop-i l =
    (blit l.to (joined l.image (fragments_from l.fragments l.i)) l.out ≡ blit l.at (joined l.image (fragments_of l.fragments)) l.initial.out)
    × (l.i ≤ l.n) × (l.n ≡ length l.fragments) × (length l.out ≡ length l.initial.out) × (l.room ≡ length l.initial.out)

abbrev pub decreases-loop-i : goal.decreases-loop-i
decreases-loop-i l = l.n - l.i
