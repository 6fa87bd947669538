-- Bookkeeping: which bytes of the file a store has.
use Rattle.std.specs.Prelude.{ℕ, ◌+◌, ◌*◌, ◌≤◌, ◌<◌, min, max, ◌≡◌}
use Rattle.stores.specs.Stores.{pages}
use Rattle.steps.specs.declared.span.Span.{Span}

-- page number k of a file of so many bytes but for its bytes below 8, or the first eight bytes past the last page
pub record PageAt (k size : ℕ) (r : Span) : Type 0 where
  pub page : k < pages size → (r.first ≡ max 8 (4096 * k)) × (r.past ≡ min (4096 * k + 4096) size)
  pub last : pages size ≤ k → (r.first ≡ 0) × (r.past ≡ 8)
  pub few : r.past ≤ r.first + 4096

-- a span that a file of so many bytes has whole, else none
pub record Clipped (s : Span) (room : ℕ) (r : Span) : Type 0 where
  pub same : s.first ≤ s.past → s.past ≤ room → r ≡ s
  pub order : r.first ≤ r.past
  pub inside : r.past ≤ room
  pub few : s.past ≤ s.first + 4096 → r.past ≤ r.first + 4096

-- what store number k + 1 has of a file of size bytes, in a slice of room bytes
pub record SpanOf (k size room : ℕ) (r : Span) : Type 0 where
  pub page : k < pages size → 8 < size → size ≤ room → (r.first ≡ max 8 (4096 * k)) × (r.past ≡ min (4096 * k + 4096) size)
  pub last : pages size ≤ k → 8 ≤ room → (r.first ≡ 0) × (r.past ≡ 8)
  pub order : r.first ≤ r.past
  pub inside : r.past ≤ room
  pub few : r.past ≤ r.first + 4096
