-- Bookkeeping: a record of a group at a place of the joined data, and a stretch one record longer.
use Rattle.std.specs.Prelude.{ℕ, ◌+◌, ◌≤◌, ◌<◌, List, ◌∷◌, ◌≡◌, Option, Some, None, length, get_or, drop}
use Rattle.base.specs.Blit.{part}
use Rattle.mdf.specs.Records.{joined}
use Rattle.work_words.specs.Words.{fragments_of}
use Rattle.result.specs.Payload.{group_records}
use Rattle.places.specs.declared.stretch.Stretch.{Stretch}
use Rattle.places.specs.Stretch.{body_bytes, StretchOf}

-- record number i of group k lies at p of the joined data
pub record RecordAt (s : List ℕ) (d k : ℕ) (gs ws : List ℕ) (i p : ℕ) : Type 0 where
  pub is : drop i (group_records s d k gs (fragments_of ws))
      ≡ part p (body_bytes s (get_or gs k 0)) (joined s (fragments_of ws)) ∷ drop (i + 1) (group_records s d k gs (fragments_of ws))
  pub inside : p + body_bytes s (get_or gs k 0) ≤ length (joined s (fragments_of ws))

-- n words of p, from first on, tell where the records of group k lie, from the first record on
pub record OffsetsIn (s : List ℕ) (d k : ℕ) (gs ws p : List ℕ) (first n : ℕ) : Type 0 where
  pub right : (r : ℕ) → r < n → RecordAt s d k gs ws r (get_or p (first + r) 0)

-- the promise of adding the record at p to a stretch: it is added, or none is made; the first is always added
pub record LongerBy (t : Stretch) (p : ℕ) (o : Option Stretch) : Type 0 where
  pub right : (r : Stretch) → o ≡ Some r → (s : List ℕ) (d k : ℕ) (gs ws : List ℕ) → StretchOf s d k gs ws t
      → RecordAt s d k gs ws (t.number + t.count) p
      → StretchOf s d k gs ws r
  pub from : (r : Stretch) → o ≡ Some r → r.number ≡ t.number
  pub count : (r : Stretch) → o ≡ Some r → r.count ≡ t.count + 1
  pub first : t.count ≡ 0 → o ≡ None → ⊥
