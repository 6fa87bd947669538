-- Each turn adds the bytes of a fragment.
use Rattle.std.proofs.Common.{◌≡◌, ℕ, ◌+◌, ◌-◌, ◌%◌, ◌^◌, ◌≤◌, length, refl, ap, zero-add, arith, rules}
use Rattle.work_words.specs.Words.{fragments_of}
use Rattle.mdf.specs.Records.{joined}
use Rattle.records.specs.Ahead.{fragments_from}
use Rattle.records.specs.FragmentLaws.{from_start}
use Rattle.writing.specs.SignalLaws.{sum_turn, sum_end}
use Rattle.writing.proofs.signal.joined_size.Given as goal

abbrev pub invariant-loop-i : goal.invariant-loop-i
invariant-loop-i l =
    ((l.sum + length (joined l.image (fragments_from l.fragments l.i))) % 2 ^ 64 ≡ length (joined l.image (fragments_of l.fragments)) % 2 ^ 64) × (l.i ≤
    l.n) ×
    (l.n ≡ length l.fragments)

abbrev pub decreases-loop-i : goal.decreases-loop-i
decreases-loop-i l = l.n - l.i
