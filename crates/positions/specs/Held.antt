-- Bookkeeping: the names held, in four names and four positions.
use Rattle.std.specs.Prelude.{ℕ, zero, suc, min, ◌≤◌, ◌<◌, ◌≡◌, List, [], ◌∷◌, get_or, Result, Ok, Err}
use Rattle.base.specs.Checked.{Checked, ok, refused}
use Rattle.stores.specs.Stores.{Named, named, State}
use Rattle.positions.specs.declared.Positions.{Positions}
use Rattle.positions.specs.declared.Refusal.{Refusal}
use Rattle.positions.specs.declared.Refusal.TheVariants.{NeverNamed, PastLimit}

-- k names from number i on
unfoldable pub held_from : List ℕ → List ℕ → ℕ → ℕ → List Named
held_from ns ps i zero = []
held_from ns ps i (suc k) = named (get_or ns i 0) (get_or ps i 0) ∷ held_from ns ps (suc i) k

-- at most four
abbrev pub state_of : Positions → State
state_of p = record { next = p.next; held = held_from p.names p.places 0 (min p.count 4) }

-- nothing stored, nothing named
abbrev pub at_first : State
at_first = record { next = 0; held = [] }

-- i is the number of the first of h names that is n, or h
pub record FirstAt (ns : List ℕ) (h n i : ℕ) : Type 0 where
  pub few : i ≤ h
  pub before : (j : ℕ) → j < i → get_or ns j 0 ≡ n → ⊥
  pub is : i < h → get_or ns i 0 ≡ n

-- a refusal's number
abbrev pub number_of : Refusal → ℕ
number_of NeverNamed = 29
number_of PastLimit = 30

-- what a call answers; a refusal answers no positions: "neither changes anything"
abbrev pub moved_of : Result Positions Refusal → Checked State
moved_of (Ok p) = ok (state_of p)
moved_of (Err r) = refused (number_of r) 0
