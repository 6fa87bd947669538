-- What is left of the columns, put from here on, gives what all give.
use Prim.Native.Nat.{ℕ, ◌≤◌}
use mathlib.Core.List.{List}
use mathlib.Core.Path.{◌≡◌}
use lib.ListN.{length}
use Rattle.taking.specs.Opened.{columns_in}
use Rattle.taking.specs.Marks.{Marked}
use Rattle.taking.specs.WordsLaws.{Putting}
use lib.ListN.{length}
use Rattle.taking.proofs.kept.put_kept.Given as goal

abbrev pub invariant-loop-k : goal.invariant-loop-k
invariant-loop-k l =
    (l.k ≤ l.file.count) × (l.j ≤ l.k) × (l.pieces ≤ l.k) × (length l.fragments ≡ length l.initial.fragments) × (length l.columns ≡ length l.initial.columns)
    × ((ns : List ℕ) → Marked ns l.marks → Putting l.file.image.now l.file.source.now ns (columns_in l.file) l.file.count l.k l.j l.pieces l.initial.fragments l.fragments l.initial.columns l.columns)
