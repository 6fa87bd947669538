-- Bookkeeping: a text by its kind and the bytes past its header.
use Rattle.std.specs.Prelude.{ℕ, ◌+◌, ◌-◌, ◌≤◌, ◌<◌, List, ◌≡◌, length}
use Rattle.base.specs.Choice.{if_eq}
use Rattle.base.specs.Blit.{part}
use Rattle.mdf.specs.Block.{kind_tx, kind_md, kind_at, size_at}

-- the kind, 0 for no text
unfoldable pub text_kind : List ℕ → ℕ → ℕ
text_kind s a = if_eq a 0 0 (if_eq (kind_at s a) kind_tx (kind_at s a) (if_eq (kind_at s a) kind_md (kind_at s a) 0))

-- the bytes past 24
unfoldable pub body : List ℕ → ℕ → List ℕ
body s a = part (a + 24) (size_at s a - 24) s

-- they are r bytes of the image
pub record BodyOf (s : List ℕ) (a r : ℕ) : Type 0 where
  pub is : body s a ≡ part (a + 24) r s
  pub size : length (body s a) ≡ r
  pub inside : 0 < r → a + 24 + r ≤ length s
