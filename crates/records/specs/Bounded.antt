-- A field and its bound.
use Rattle.std.specs.Prelude.{ℕ, ◌<◌, ◌≡◌}

pub record Bounded (most n r : ℕ) : Type 0 where
  pub is : r ≡ n
  pub small : r < most
