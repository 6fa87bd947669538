-- Data blocks and SD made anew: "data block kinds and lengths .. stay" (document 02, request 13).
use Rattle.std.specs.Prelude.{ℕ, ◌+◌, ◌-◌, ◌≤◌, List, [], ◌∷◌, ◌++◌, ◌≡◌, length}
use Rattle.base.specs.Blit.{part, blit}
use Rattle.mdf.specs.Block.{size_at}
use Rattle.mdf.specs.Chain.{Fragment}
use Rattle.result.specs.Fill.{block_of}
use Rattle.thin.specs.Fill.{kind_number}

-- a block of the kind with the data of the block at x laid over d gives last; the image s has n bytes of that data
pub record Anew (s : List ℕ) (kind x : ℕ) (d last : List ℕ) (n : ℕ) : Type 0 where
  pub is : last ≡ blit 0 (block_of kind (part (x + 24) (size_at s x - 24) s)) d
  pub here : n ≡ length (part (x + 24) (size_at s x - 24) s)
  pub within : n ≤ length s

-- a fragment's block
abbrev pub anew_of : List ℕ → Fragment → List ℕ
anew_of s f = block_of (kind_number f.kind) (part f.offset f.size s)

-- those of all, one after the other
unfoldable pub moved_bytes : List ℕ → List Fragment → List ℕ
moved_bytes s [] = []
moved_bytes s (f ∷ fs) = anew_of s f ++ moved_bytes s fs

-- laid over d they give last; r is past them where they have room
pub record Moves (s : List ℕ) (fs : List Fragment) (d last : List ℕ) (r : ℕ) : Type 0 where
  pub is : last ≡ blit 0 (moved_bytes s fs) d
  pub past : length (moved_bytes s fs) ≤ length d → r ≡ length (moved_bytes s fs)
