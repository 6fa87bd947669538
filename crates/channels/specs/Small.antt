-- A number that fits n bytes.
use Rattle.std.specs.Prelude.{ℕ, ◌^◌, ◌<◌, ◌≡◌}

pub record Small (n x r : ℕ) : Type 0 where
  pub is : r ≡ x
  pub small : r < 256 ^ n
