-- Bookkeeping: what is asked of a column before its blocks are written, and what is promised of its records.
use Rattle.std.specs.Prelude.{ℕ, ◌+◌, ◌*◌, ◌≤◌, ◌<◌, Bool, true, false, List, ◌≡◌, get_or}
use Rattle.work_words.specs.Words.{fragments_of}
use Rattle.plan.specs.Geometry.{block_count, per_full}
use Rattle.result.specs.Payload.{group_records}
use Rattle.result.specs.Fill.{data_kind}
use Rattle.places.specs.Stretch.{number_in, Ready}
use Rattle.offsets.specs.declared.kept.Offsets.{Offsets}
use Rattle.offsets.specs.Offsets.{OffsetsFor, KeepsOffsets}
use Rattle.cells.specs.Shape.{ShapeOf}
use Rattle.data_blocks.specs.declared.column.Column.{Column}
use Rattle.data_blocks.specs.declared.piece.Form.{Form}
use Rattle.data_blocks.specs.Region.{region_of, reach_to, Due, Grown}
use Rattle.data_blocks.specs.Blocks.{PlacesKept}

-- the column's blocks are formed so
pub record FormOf (s : List ℕ) (size : ℕ) (c : Column) (f : Form) : Type 0 where
  pub shape_of : ShapeOf s c.group c.channel f.shape
  pub kind_is : f.kind ≡ data_kind f.shape.keep
  pub per_is : f.per ≡ per_full size f.shape.width c.records
  pub blocks_are : f.blocks ≡ block_count size f.shape.width c.records
  pub records_are : f.records ≡ c.records

-- so many bytes have room for them
pub record Room (room : ℕ) (f : Form) : Type 0 where
  pub wide : 0 < f.shape.width
  pub ends : 24 * f.blocks + f.records * f.shape.width ≤ room

pub record IfRoom (room : ℕ) (f : Form) (r : Bool) : Type 0 where
  pub yes : r ≡ true → Room room f
  pub no : r ≡ false → Room room f → ⊥

-- all records of the column's group came to stand, and the places that are kept stay right
abbrev pub PutRecords : List ℕ → List ℕ → List ℕ → Column → Form → List ℕ → List ℕ → List ℕ → List ℕ → List ℕ → List ℕ → Type 0
PutRecords s gs ws c f p last-p q last-q out last =
    (gs_of ws_of : ℕ → List ℕ) → gs_of c.parent ≡ gs → ws_of c.parent ≡ ws → PlacesKept s gs_of ws_of p q
    → Ready s c.parent (number_in c.group gs) gs ws → get_or gs (number_in c.group gs) 0 ≡ f.shape.group
    → Due f (group_records s c.parent (number_in c.group gs) gs (fragments_of ws))
    → PlacesKept s gs_of ws_of last-p last-q
    × Grown (region_of s f (group_records s c.parent (number_in c.group gs) gs (fragments_of ws))) (reach_to f 0) (reach_to f f.records) out last

-- the offsets of the DG's records come to be kept, if they have room, and where those of the group at g stand is told
pub record Prepares (s : List ℕ) (d g : ℕ) (gs ws q last-q : List ℕ) (o : Offsets) : Type 0 where
  pub keeps : KeepsOffsets s d gs ws q last-q
  pub told : OffsetsFor last-q d g o
