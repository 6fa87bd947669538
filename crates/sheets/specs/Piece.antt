-- Bookkeeping: a piece of known length, laid over a list.
use Rattle.std.specs.Prelude.{ℕ, List, ◌≡◌, length}
use Rattle.base.specs.Blit.{blit}

-- bs, n bytes, laid over d from index at on gives e
pub record Piece (at : ℕ) (bs : List ℕ) (n : ℕ) (d e : List ℕ) : Type 0 where
  pub is : e ≡ blit at bs d
  pub long : length bs ≡ n
