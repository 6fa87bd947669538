-- Blocks in the order of their addresses.
use Rattle.std.specs.Prelude.{ℕ, ◌+◌, ◌≤◌, ◌<◌, List, [], ◌∷◌, length}
use Rattle.result.specs.Fill.{Block}

-- each block begins at or past the end of the one before it, the first at a or past it, and the last ends by e
unfoldable pub Ordered : ℕ → List Block → ℕ → Type 0
Ordered a [] e = a ≤ e
Ordered a (b ∷ bs) e = (a ≤ b.at) × Ordered (b.at + length b.bytes) bs e

-- "Between two neighbouring written blocks lie fewer than the unit's bytes" (document 02, request 13): from a on before each block, and
-- behind the last up to e
unfoldable pub Close : ℕ → ℕ → List Block → ℕ → Type 0
Close u a [] e = e < a + u
Close u a (b ∷ bs) e = (b.at < a + u) × Close u (b.at + length b.bytes) bs e
