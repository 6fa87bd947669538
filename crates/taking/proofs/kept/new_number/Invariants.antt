-- As many as are kept before column k.
use Prim.Native.Nat.{ℕ, ◌≤◌}
use mathlib.Core.List.{List}
use mathlib.Core.Path.{◌≡◌}
use Rattle.thin.specs.Kept.{new_number}
use Rattle.taking.specs.Marks.{Marked}
use Rattle.taking.proofs.kept.new_number.Given as goal

abbrev pub invariant-loop-k : goal.invariant-loop-k
invariant-loop-k l = (l.k ≤ l.m) × (l.count ≤ l.k) × ((ns : List ℕ) → Marked ns l.marks → l.count ≡ new_number ns l.k)
