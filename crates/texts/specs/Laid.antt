-- Bytes laid over a list from an index on.
use Rattle.std.specs.Prelude.{ℕ, ◌+◌, ◌≤◌, List, ◌≡◌, length}
use Rattle.base.specs.Blit.{blit}

-- bs, no more than most bytes, laid over d₀ from index at on gives d; r is the index past bs
pub record Laid (at : ℕ) (bs : List ℕ) (most : ℕ) (d₀ d : List ℕ) (r : ℕ) : Type 0 where
  pub is : d ≡ blit at bs d₀
  pub past : r ≡ at + length bs
  pub small : length bs ≤ most
