-- Bookkeeping: the records of a group, one after the other.
use Rattle.std.specs.Prelude.{ℕ, ◌+◌, ◌-◌, ◌*◌, ◌≤◌, ◌<◌, List, ◌≡◌, length}
use Rattle.mdf.specs.Records.{most64}
use Rattle.records.specs.Table.{Tabled}
use Rattle.places.specs.declared.stretch.Next.{Next}
use Rattle.places.specs.declared.stretch.Scan.{Scan}
use Rattle.places.specs.declared.stretch.Stretch.{Stretch}
use Rattle.places.specs.Stretch.{Ready, StretchOf}
use Rattle.places.specs.Scan.{start, ScanOf, NextFor}
use Rattle.joined.specs.Spot.{front, SpotOf}
use Rattle.comparing.specs.declared.head.Head.{Head}
use Rattle.comparing.specs.declared.times.Clock.{Clock}
use Rattle.comparing.specs.Comparable.{clock_records}

-- before all records
abbrev pub head_front : Head
head_front = record { first = 0; stride = 0; count = 0; scan = start; spot = front }

-- the tables are those of the DG's groups, if they are several
abbrev pub TablesOf : List ℕ → List ℕ → List ℕ → List ℕ → Type 0
TablesOf s gs ids sizes = (length gs ≡ 1 → ⊥) → Tabled s gs ids sizes

-- the promise of a function that finds the next records by tables
abbrev pub NextWith : List ℕ → Clock → List ℕ → List ℕ → List ℕ → List ℕ → Scan → Next → Type 0
NextWith s c gs ws ids sizes scan r = TablesOf s gs ids sizes → NextFor s c.dg c.number gs ws scan r

-- its records at equal distances, the first of them number at
abbrev pub stretch_at : ℕ → Head → Stretch
stretch_at at h = record { number = at; first = h.first; stride = h.stride; count = h.count }

-- these are the group's; then come those past its place
pub record HeadOf (s : List ℕ) (c : Clock) (gs ws : List ℕ) (at : ℕ) (h : Head) : Type 0 where
  pub stretch : StretchOf s c.dg c.number gs ws (stretch_at at h)
  pub scan : ScanOf s c.dg c.number gs ws h.scan
  pub to : h.scan.number ≡ at + h.count
  pub spot : SpotOf s ws h.spot

-- there is one, and the place in the data is where it begins
pub record HeadHere (s : List ℕ) (c : Clock) (gs ws : List ℕ) (at : ℕ) (h : Head) : Type 0 where
  pub of : HeadOf s c gs ws at h
  pub some : 0 < h.count
  pub here : h.spot.offset ≡ h.first

-- the promise of a function that finds record number at
abbrev pub HeadFor : List ℕ → Clock → List ℕ → List ℕ → List ℕ → List ℕ → Head → Head → Type 0
HeadFor s c gs ws ids sizes h r =
    TablesOf s gs ids sizes → Ready s c.dg c.number gs ws → (at : ℕ) → at < length (clock_records s c gs ws) → HeadOf s c gs ws at h
    → HeadHere s c gs ws at r

-- past the first m records
pub record HeadPast (h : Head) (m : ℕ) (r : Head) : Type 0 where
  pub scan : r.scan ≡ h.scan
  pub spot : r.spot ≡ h.spot
  pub count : 0 < m → (m < h.count → h.first + m * h.stride ≤ most64) → r.count ≡ h.count - m
  pub first : 0 < r.count → r.first ≡ h.first + m * h.stride
  pub stride : 0 < r.count → r.stride ≡ h.stride
