-- Blocks written one after the other, zeros between them.
use Rattle.std.specs.Prelude.{ℕ, ◌+◌, List, [], ◌∷◌, ◌≡◌, length}
use Rattle.base.specs.Blit.{blit}
use Rattle.result.specs.Fill.{Block}
use Rattle.result.specs.Result.{flat}

-- past the last of blocks, from a on
unfoldable pub end_of : ℕ → List Block → ℕ
end_of a [] = a
end_of a (b ∷ bs) = end_of (b.at + length b.bytes) bs

-- from a on the blocks were written over out, which gave last; r is past them
pub record Wrote (a : ℕ) (bs : List Block) (r : ℕ) (out last : List ℕ) : Type 0 where
  pub end : r ≡ end_of a bs
  pub bytes : last ≡ blit a (flat a bs r) out
