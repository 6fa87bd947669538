-- Blocks that each begin by the next multiple of a unit: this carries over from parts to the whole.
use Rattle.std.specs.Prelude.{ℕ, ◌+◌, ◌≤◌, List, [], ◌∷◌, length}
use Rattle.plan.specs.Geometry.{align_to}
use Rattle.result.specs.Fill.{Block}

-- from a on, and so is e
unfoldable pub Near : ℕ → ℕ → List Block → ℕ → Type 0
Near u a [] e = e ≤ align_to u a
Near u a (b ∷ bs) e = (b.at ≤ align_to u a) × Near u (b.at + length b.bytes) bs e
