-- The sum so far and what is left give the whole.
use Rattle.mdf.specs.Records.{size_of}
use Rattle.work_words.specs.Words.{fragments_of}
use Rattle.records.specs.Ahead.{fragments_from}
use mathlib.Core.Path.{◌≡◌}
use Prim.Native.Nat.{◌+◌, ◌-◌, ◌≤◌}
use lib.ListN.{length}
use Rattle.records.proofs.several.size_in.Given as goal

abbrev pub invariant-loop-i : goal.invariant-loop-i
invariant-loop-i l =
    (l.i ≤ length l.fragments) × (l.sum ≤ 18446744073709551615) × (l.sum + size_of (fragments_from l.fragments l.i) ≡ size_of (fragments_of
    l.fragments))

abbrev pub decreases-loop-i : goal.decreases-loop-i
decreases-loop-i l = length l.fragments - l.i
