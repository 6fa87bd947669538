-- Little-endian fields, over the width: read from a list of bytes, and as bytes. "Fields little-endian" (document 01, first line).
use Rattle.std.specs.Prelude.{ℕ, zero, suc, ◌+◌, ◌*◌, ◌/◌, ◌%◌, ◌^◌, ◌<◌, List, [], ◌∷◌, ◌≡◌, get_or}

-- the n bytes from at on, the lowest first, as a number; a byte past the end counts as 0
unfoldable pub le_at : ℕ → List ℕ → ℕ → ℕ
le_at zero s at = 0
le_at (suc n) s at = get_or s at 0 + 256 * le_at n s (at + 1)

-- the n low bytes of x, the lowest first
unfoldable pub le : ℕ → ℕ → List ℕ
le zero x = []
le (suc n) x = x % 256 ∷ le n (x / 256)

-- bookkeeping of contracts: r is the field of n bytes at at
pub record Field (n : ℕ) (s : List ℕ) (at r : ℕ) : Type 0 where
  pub is : r ≡ le_at n s at
  pub small : r < 256 ^ n
