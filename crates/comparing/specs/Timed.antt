-- Bookkeeping: the cells of the records of two groups, from a number on.
use Rattle.std.specs.Prelude.{ℕ, List, Bool, ◌≡◌, length, get_or, drop}
use Rattle.result.specs.Payload.{cells}
use Rattle.result.specs.Sharing.{same}
use Rattle.places.specs.Stretch.{Ready}
use Rattle.cells.specs.declared.cell.Shape.{Shape}
use Rattle.comparing.specs.declared.times.Clock.{Clock}
use Rattle.comparing.specs.Comparable.{clock_records}

-- a group whose data was checked, has as many records as counted, and whose cells have a form
pub record Timed (s : List ℕ) (c : Clock) (h : Shape) (gs ws : List ℕ) : Type 0 where
  pub ready : Ready s c.dg c.number gs ws
  pub group : get_or gs c.number 0 ≡ h.group
  pub many : length (clock_records s c gs ws) ≡ c.records

-- the cells of its records from number at on
unfoldable pub cells_from : List ℕ → Clock → Shape → List ℕ → List ℕ → ℕ → List ℕ
cells_from s c h gs ws at = cells s h.group h.channel (drop at (clock_records s c gs ws))

-- two such groups
pub record Pair (s : List ℕ) (a : Clock) (h : Shape) (gs ws : List ℕ) (b : Clock) (i : Shape) (hs vs : List ℕ) : Type 0 where
  pub one : Timed s a h gs ws
  pub two : Timed s b i hs vs
  pub count : a.records ≡ b.records

-- the promise of a function that compares their cells
abbrev pub RecordsSame : List ℕ → Clock → Shape → List ℕ → List ℕ → Clock → Shape → List ℕ → List ℕ → Bool → Type 0
RecordsSame s a h gs ws b i hs vs r = Pair s a h gs ws b i hs vs → r ≡ same (cells_from s a h gs ws 0) (cells_from s b i hs vs 0)
