-- Bookkeeping: what is ahead of a place between two records of several groups, and the record that follows.
use Rattle.std.specs.Prelude.{ℕ, ◌+◌, ◌≤◌, ◌<◌, false, Option, Some, None, List, [], ◌∷◌, ◌≡◌, length, get_or, drop}
use Rattle.base.specs.Blit.{part}
use Rattle.mdf.specs.Walk.{id_size}
use Rattle.mdf.specs.Group.{is_storage}
use Rattle.mdf.specs.Records.{most64, joined, Frame}
use Rattle.work_words.specs.Words.{fragments_of}
use Rattle.payload_laws.specs.FramedLaws.{AllKnown}
use Rattle.records.specs.Ahead.{ahead}
use Rattle.records.specs.Table.{Tabled}
use Rattle.places.specs.declared.stretch.Scan.{Scan}
use Rattle.places.specs.declared.frame.Found.{Found}
use Rattle.places.specs.Stretch.{body_bytes}
use Rattle.places.specs.Several.{Read}

-- what is ahead are the records rs, to the end; ids have n bytes
pub record Facing (s : List ℕ) (n : ℕ) (gs ws : List ℕ) (at p l offset : ℕ) (rs : List Frame) : Type 0 where
  pub rest : joined s (ahead s ws at p l) ≡ drop offset (joined s (fragments_of ws))
  pub within : offset ≤ length (joined s (fragments_of ws))
  pub read : Read s n gs (drop offset (joined s (fragments_of ws))) rs
  pub known : AllKnown s n gs rs

-- the first of them is of group j, its bytes past the id lie at a place of the joined data, and the others are ahead of at', p', l'
pub record Faced (s : List ℕ) (n : ℕ) (gs ws : List ℕ) (rs : List Frame) (j place at' p' l' offset' : ℕ) : Type 0 where
  pub first : Frame
  pub later : List Frame
  pub is : rs ≡ first ∷ later
  pub group : first.group ≡ j
  pub listed : j < length gs
  pub bytes : first.bytes ≡ part place (length first.bytes) (joined s (fragments_of ws))
  pub inside : place + length first.bytes ≤ length (joined s (fragments_of ws))
  pub long : is_storage s (get_or gs j 0) ≡ false → length first.bytes ≡ body_bytes s (get_or gs j 0)
  pub facing : Facing s n gs ws at' p' l' offset' later

-- the promise of finding it from the place c on: it is found unless there are none
pub record FoundAt (s : List ℕ) (n : ℕ) (gs ws ids sizes : List ℕ) (c : Scan) (o : Option Found) : Type 0 where
  pub further : (r : Found) → o ≡ Some r → (c.offset < r.past.offset) × (r.past.offset ≤ most64)
  pub number : (r : Found) → o ≡ Some r → r.past.number ≡ c.number
  pub right : (d : ℕ) → n ≡ id_size s d → 0 < n → Tabled s gs ids sizes → length (joined s (fragments_of ws)) ≤ most64 → (rs : List Frame)
      → Facing s (id_size s d) gs ws c.at c.position c.left c.offset rs
      → (o ≡ None → rs ≡ [])
      × ((r : Found) → o ≡ Some r
      → Faced s (id_size s d) gs ws rs r.group r.place r.past.at r.past.position r.past.left r.past.offset)
