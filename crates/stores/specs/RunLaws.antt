-- What the laws of calls speak of: what holds after every call, and what calls since the beginning leave.
use Rattle.std.specs.Prelude.{ℕ, ◌≤◌, ◌<◌, List, ◌≡◌, length}
use Rattle.std.proofs.Math.Option.{some}
use Rattle.base.specs.Blit.{blit}
use Rattle.stores.specs.Stores.{steps_of, stored_to, sought, Op, Running, begun, run}

-- ---- what holds after every call, for a file out and a list at the beginning

pub record Holds (f words out list : List ℕ) (r : Running) : Type 0 where
  pub file : r.file ≡ stored_to f r.high out
  pub reached : r.state.next ≤ r.high
  pub most : r.high ≤ steps_of (length f)
  pub done : steps_of (length f) ≤ r.high → steps_of (length f) ≤ r.state.next
  pub held : (n k : ℕ) → sought n r.state.held ≡ some k → (k ≤ r.high) × (k < steps_of (length f))
  pub few : length r.state.held ≤ 4
  pub unlisted : r.high < steps_of (length f) → r.list ≡ list
  pub listed : steps_of (length f) ≤ r.high → r.list ≡ blit 0 words list

-- ---- after any calls since the beginning

-- what they leave
abbrev pub ran : List ℕ → List ℕ → List ℕ → List ℕ → List Op → Running
ran f words out list os = run f words os (begun out list)
