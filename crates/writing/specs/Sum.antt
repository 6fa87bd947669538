-- Sums over the numbers from k on.
use Rattle.std.specs.Prelude.{ℕ, zero, suc, ◌+◌}

unfoldable pub sum_of : (ℕ → ℕ) → ℕ → ℕ → ℕ
sum_of f k zero = 0
sum_of f k (suc n) = f k + sum_of f (k + 1) n
