-- Blocks of which each begins where the one before it ends.
use Prim.{Unit}
use Rattle.std.specs.Prelude.{ℕ, ◌+◌, List, [], ◌∷◌, ◌++◌, ◌≡◌, length}
use Rattle.base.specs.Blit.{blit}
use Rattle.result.specs.Fill.{Block}

-- the bytes of all
unfoldable pub bytes_of : List Block → List ℕ
bytes_of [] = []
bytes_of (b ∷ bs) = b.bytes ++ bytes_of bs

-- the first at a
unfoldable pub Touching : ℕ → List Block → Type 0
Touching a [] = Unit
Touching a (b ∷ bs) = (b.at ≡ a) × Touching (a + length b.bytes) bs

-- each laid over out at its place
unfoldable pub laid : List Block → List ℕ → List ℕ
laid [] out = out
laid (b ∷ bs) out = laid bs (blit b.at b.bytes out)
