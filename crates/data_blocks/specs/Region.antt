-- Bookkeeping: the data blocks of a column, filled record by record.
use Rattle.std.specs.Prelude.{ℕ, ◌+◌, ◌*◌, ◌-◌, ◌/◌, ◌%◌, ◌≤◌, ◌<◌, min, List, [], ◌≡◌, length, take, drop}
use Rattle.base.specs.Choice.{if_eq}
use Rattle.base.specs.Blit.{blit}
use Rattle.mdf.specs.Records.{joined, size_of}
use Rattle.work_words.specs.Words.{fragments_of}
use Rattle.result.specs.Payload.{payloads}
use Rattle.result.specs.Fill.{header}
use Rattle.payload_laws.specs.Lists.{Long}
use Rattle.payload_laws.specs.GeometryLaws.{Split}
use Rattle.places.specs.declared.stretch.Stretch.{Stretch}
use Rattle.places.specs.Stretch.{records_at, spaced}
use Rattle.cells.specs.Shape.{Shaped}
use Rattle.cells.specs.Strided.{Lying}
use Rattle.data_blocks.specs.declared.piece.Form.{Form}
use Rattle.data_blocks.specs.Blocks.{framed_all}

-- the blocks of the records rs, one after the other
unfoldable pub region_of : List ℕ → Form → List (List ℕ) → List ℕ
region_of s f rs = framed_all f.kind (payloads s f.shape.group f.shape.channel f.per f.blocks rs)

-- blocks of m records that i records begin
unfoldable pub begun : ℕ → ℕ → ℕ
begun m i = (i + (m - 1)) / m

-- the bytes of i records, w each, and of the headers of the blocks that they begin
unfoldable pub filled_to : ℕ → ℕ → ℕ → ℕ
filled_to m w i = 24 * begun m i + i * w

-- those of a column
abbrev pub reach_to : Form → ℕ → ℕ
reach_to f i = filled_to f.per f.shape.width i

-- what is put before the cell of record number i, of n records w bytes wide: a block's header, if it begins a block
unfoldable pub start_of : ℕ → ℕ → ℕ → ℕ → ℕ → List ℕ
start_of kind m n w i = if_eq (i % m) 0 (header kind (24 + min m (n - i) * w) 0) []

-- all but the last block have per records; they have room
pub record Formed (s : List ℕ) (f : Form) (room : ℕ) : Type 0 where
  pub shaped : Shaped s f.shape
  pub split : Split f.per f.blocks f.records
  pub wide : 0 < f.shape.width
  pub ends : 24 * f.blocks + f.records * f.shape.width ≤ room

-- the column's records
pub record Due (f : Form) (rs : List (List ℕ)) : Type 0 where
  pub many : length rs ≡ f.records
  pub long : Long f.shape.length rs

-- where the first a bytes of region stood at the front, the first b stand there
abbrev pub Grown : List ℕ → ℕ → ℕ → List ℕ → List ℕ → Type 0
Grown region a b out last = (base : List ℕ) → out ≡ blit 0 (take a region) base → last ≡ blit 0 (take b region) base

-- a stretch that lies in the data, of records that the column has
pub record PieceIn (ws : List ℕ) (f : Form) (t : Stretch) : Type 0 where
  pub lying : Lying (size_of (fragments_of ws)) f.shape.length t.first t.stride t.count
  pub few : t.number + t.count ≤ f.records

-- the places of its records
abbrev pub places_of : Stretch → List ℕ
places_of t = spaced t.first t.stride t.count

-- n records of rs from number i on are those at the places ps
abbrev pub PieceOf : List ℕ → List ℕ → Form → List (List ℕ) → ℕ → ℕ → List ℕ → Type 0
PieceOf s ws f rs i n ps = take n (drop i rs) ≡ records_at (joined s (fragments_of ws)) f.shape.length ps

-- their cells came to stand
abbrev pub PutPiece : List ℕ → List ℕ → Form → ℕ → ℕ → List ℕ → List ℕ → List ℕ → Type 0
PutPiece s ws f i n ps out last =
    (rs : List (List ℕ)) → Due f rs → PieceOf s ws f rs i n ps → Grown (region_of s f rs) (reach_to f i) (reach_to f (i + n)) out last
