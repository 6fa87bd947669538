-- Bookkeeping: a place up to which the records of a group were found, and the records that follow.
use Rattle.std.specs.Prelude.{ℕ, ◌+◌, ◌<◌, List, ◌≡◌, length, get_or}
use Rattle.work_words.specs.Words.{fragments_of}
use Rattle.result.specs.Payload.{group_records}
use Rattle.places.specs.declared.stretch.Scan.{Scan}
use Rattle.places.specs.declared.stretch.Next.{Next}
use Rattle.mdf.specs.Walk.{id_size}
use Rattle.records.specs.Table.{Tabled}
use Rattle.places.specs.Stretch.{Ready, StretchOf}
use Rattle.places.specs.Sorted.{SortedScan}
use Rattle.places.specs.Several.{SeveralScan}

-- the place before all records
abbrev pub start : Scan
start = record { at = 0; position = 0; left = 0; offset = 0; number = 0 }

pub record ScanOf (s : List ℕ) (d k : ℕ) (gs ws : List ℕ) (c : Scan) : Type 0 where
  pub alone : length gs ≡ 1 → SortedScan s d (get_or gs 0 0) ws c
  pub several : (length gs ≡ 1 → ⊥) → SeveralScan s d k gs ws c

-- the stretch is that of the next records, some if there are any, and the new place is past them
pub record NextOf (s : List ℕ) (d k : ℕ) (gs ws : List ℕ) (c : Scan) (r : Next) : Type 0 where
  pub stretch : StretchOf s d k gs ws r.stretch
  pub from : r.stretch.number ≡ c.number
  pub some : c.number < length (group_records s d k gs (fragments_of ws)) → 0 < r.stretch.count
  pub scan : ScanOf s d k gs ws r.scan
  pub to : r.scan.number ≡ c.number + r.stretch.count

-- the promise of a function that finds them
abbrev pub NextFor : List ℕ → ℕ → ℕ → List ℕ → List ℕ → Scan → Next → Type 0
NextFor s d k gs ws c r = Ready s d k gs ws → ScanOf s d k gs ws c → NextOf s d k gs ws c r

-- of one that goes by tables; ids have n bytes
abbrev pub NextBy : List ℕ → ℕ → ℕ → List ℕ → List ℕ → List ℕ → List ℕ → Scan → Next → Type 0
NextBy s n k gs ws ids sizes c r =
    (d : ℕ) → n ≡ id_size s d → (length gs ≡ 1 → ⊥) → Tabled s gs ids sizes → NextFor s d k gs ws c r
