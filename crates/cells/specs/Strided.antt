-- Bookkeeping: records at equal distances in bytes.
use Rattle.std.specs.Prelude.{ℕ, ◌+◌, ◌*◌, ◌-◌, ◌≤◌, ◌<◌}

-- n records of so many bytes, the first at a place, lie in size bytes
pub record Lying (size bytes first stride n : ℕ) : Type 0 where
  pub some : 0 < n
  pub within : first + (n - 1) * stride + bytes ≤ size
