-- A test of so many columns from number k on: the first refusal.
use Rattle.std.specs.Prelude.{ℕ, zero, suc, ◌+◌}
use Rattle.base.specs.Checked.{and_then, Verdict, fine}

unfoldable pub each : (ℕ → Verdict) → ℕ → ℕ → Verdict
each f zero k = fine
each f (suc n) k = and_then (f k) (λ _. each f n (k + 1))
