-- Each turn passes over the rest of a fragment; the last part lies in one. Where no fragment follows, there were fewer bytes.
use Prim.Native.Nat.{ℕ, ◌-◌, ◌≤◌}
use mathlib.Core.List.{List}
use mathlib.Core.Path.{◌≡◌}
use lib.ListN.{length}
use Rattle.base.specs.Checked.{fine}
use Rattle.mdf.specs.Records.{most64, ranges_in, size_of}
use Rattle.joined.specs.Ahead.{ahead, past}
use Rattle.joined.specs.AheadLaws.{Skipping}
use Rattle.joined.proofs.cursor.skip.Given as goal

abbrev pub invariant-loop-k : goal.invariant-loop-k
invariant-loop-k l =
    (s : List ℕ) → length s ≤ most64 → ranges_in s (ahead l.fragments l.initial.k) ≡ fine → l.m ≤ size_of (ahead l.fragments l.initial.k)
    → Skipping s l.fragments l.k l.more (past l.m (ahead l.fragments l.initial.k))

abbrev pub decreases-loop-k : goal.decreases-loop-k
decreases-loop-k l = length l.fragments - l.k.at
