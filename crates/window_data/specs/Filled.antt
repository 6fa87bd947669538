-- Bookkeeping: the records of a group, found in stretches, in the blocks of its column over a window.
use Rattle.std.specs.Prelude.{ℕ, ◌+◌, ◌*◌, ◌≤◌, ◌<◌, max, List, ◌≡◌, get_or}
use Rattle.mdf.specs.Records.{most64}
use Rattle.work_words.specs.Words.{fragments_of}
use Rattle.result.specs.Payload.{group_records}
use Rattle.payload_laws.specs.GeometryLaws.{Split}
use Rattle.places.specs.declared.stretch.Stretch.{Stretch}
use Rattle.places.specs.Stretch.{Ready}
use Rattle.stores.specs.Over.{over}
use Rattle.data_blocks.specs.declared.piece.Form.{Form}
use Rattle.data_blocks.specs.Region.{region_of, reach_to, Due, places_of, PieceOf}
use Rattle.window_data.specs.Region.{GrownIn}

-- the numbers of blocks that are formed: their bytes can be counted
pub record FormIn (f : Form) : Type 0 where
  pub split : Split f.per f.blocks f.records
  pub wide : 0 < f.shape.width
  pub ends : 24 * f.blocks + f.records * f.shape.width ≤ most64

-- all that stands before record number r, of those that there are, lies before index a
pub record FromOf (f : Form) (a r : ℕ) : Type 0 where
  pub few : r ≤ f.records
  pub before : reach_to f r ≤ a

-- the records of a stretch from number r on are laid
abbrev pub LaysRest : List ℕ → List ℕ → Form → ℕ → ℕ → Stretch → List ℕ → List ℕ → Type 0
LaysRest s ws f a r t w last =
    (rs : List (List ℕ)) → Due f rs → PieceOf s ws f rs t.number t.count (places_of t)
    → GrownIn a (region_of s f rs) (reach_to f (max r t.number)) (reach_to f (max r (t.number + t.count))) w last

-- the records of group k from number r up to b are laid
abbrev pub FilledIn : ℕ → List ℕ → ℕ → ℕ → List ℕ → List ℕ → Form → ℕ → ℕ → List ℕ → List ℕ → Type 0
FilledIn a s d k gs ws f r b w last =
    Ready s d k gs ws → get_or gs k 0 ≡ f.shape.group → Due f (group_records s d k gs (fragments_of ws))
    → GrownIn a (region_of s f (group_records s d k gs (fragments_of ws))) (reach_to f r) (reach_to f b) w last

-- all blocks are laid
abbrev pub LaysAll : ℕ → List ℕ → ℕ → ℕ → List ℕ → List ℕ → Form → List ℕ → List ℕ → Type 0
LaysAll a s d k gs ws f w last =
    Ready s d k gs ws → get_or gs k 0 ≡ f.shape.group → Due f (group_records s d k gs (fragments_of ws))
    → last ≡ over a 0 (region_of s f (group_records s d k gs (fragments_of ws))) w
