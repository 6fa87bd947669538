-- What is left of the columns gives what all give.
use Prim.Native.Nat.{ℕ, ◌-◌, ◌≤◌}
use mathlib.Core.List.{List}
use mathlib.Core.Path.{◌≡◌}
use Rattle.taking.specs.Each.{each}
use Rattle.taking.specs.Marks.{Marked, photos_at}
use Rattle.taking.proofs.kept.photos_kept.Given as goal

abbrev pub invariant-loop-k : goal.invariant-loop-k
invariant-loop-k l = (l.k ≤ l.file.count) × ((ns : List ℕ) → Marked ns l.marks → each (photos_at l.file.image.now l.file.source.now ns) (l.file.count - l.k) l.k ≡ each (photos_at l.file.image.now l.file.source.now ns) l.file.count 0)
