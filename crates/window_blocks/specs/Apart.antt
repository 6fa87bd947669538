-- Bookkeeping: bytes that no window sees.
use Rattle.std.specs.Prelude.{ℕ, ◌+◌, ◌≤◌, ◌⊎◌}

-- n bytes at index at end before a window of so many bytes from a on, or begin past its end
abbrev pub Apart : ℕ → ℕ → ℕ → ℕ → Type 0
Apart room a at n = (at + n ≤ a) ⊎ (a + room ≤ at)
