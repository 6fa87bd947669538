-- The data blocks of a column, and what is asked and promised of writing them.
use Rattle.std.specs.Prelude.{ℕ, ◌≤◌, ◌<◌, true, false, List, [], ◌∷◌, ◌++◌, ◌≡◌, length}
use Rattle.base.specs.Blit.{blit}
use Rattle.base.specs.Checked.{fine}
use Rattle.mdf.specs.Group.{is_storage}
use Rattle.mdf.specs.Records.{most64, size_of}
use Rattle.work_words.specs.Words.{fragments_of}
use Rattle.plan.specs.Channel.{fits, keeps_inval, width}
use Rattle.plan.specs.Geometry.{block_count, per_full}
use Rattle.plan.specs.Data.{records_in}
use Rattle.result.specs.Payload.{group_records, payloads}
use Rattle.result.specs.Fill.{block_of, data_kind}
use Rattle.places.specs.Stretch.{number_in}
use Rattle.places.specs.Pool.{Pooled}
use Rattle.offsets.specs.Offsets.{Kept}
use Rattle.data_blocks.specs.declared.column.Column.{Column}

-- bookkeeping: the blocks of payloads, one after the other: "24 + payload apart"
unfoldable pub framed_all : ℕ → List (List ℕ) → List ℕ
framed_all kind [] = []
framed_all kind (p ∷ ps) = block_of kind p ++ framed_all kind ps

-- "Records" of the column's group; its DG has the groups gs and fragments by the words ws
abbrev pub column_records : List ℕ → List ℕ → List ℕ → Column → List (List ℕ)
column_records s gs ws c = group_records s c.parent (number_in c.group gs) gs (fragments_of ws)

abbrev pub wide_of : List ℕ → Column → ℕ
wide_of s c = width s c.group c.channel

-- "Records per block": of a block that is not the last
abbrev pub per_of : List ℕ → ℕ → Column → ℕ
per_of s size c = per_full size (wide_of s c) c.records

-- how many blocks it has
abbrev pub count_of : List ℕ → ℕ → Column → ℕ
count_of s size c = block_count size (wide_of s c) c.records

-- "Blocks are DT with, DV without, an invalidation byte."
abbrev pub kind_of : List ℕ → Column → ℕ
kind_of s c = data_kind (keeps_inval s c.group c.channel)

-- its blocks, one after the other, for the records rs
unfoldable pub blocks_for : List ℕ → ℕ → Column → List (List ℕ) → List ℕ
blocks_for s size c rs = framed_all (kind_of s c) (payloads s c.group c.channel (per_of s size c) (count_of s size c) rs)

-- "its blocks"
abbrev pub blocks_bytes : List ℕ → ℕ → List ℕ → List ℕ → Column → List ℕ
blocks_bytes s size gs ws c = blocks_for s size c (column_records s gs ws c)

-- its channel fits its group, which is one of its DG's and no VLSD storage; if it has bytes, its DG's records were checked, and its own
-- counted, and its DG's data has a size; the blocks have room
pub record BlocksReady (s : List ℕ) (size : ℕ) (gs ws : List ℕ) (c : Column) (room : ℕ) : Type 0 where
  pub fit : fits s c.group c.channel ≡ true
  pub kept : is_storage s c.group ≡ false
  pub listed : number_in c.group gs < length gs
  pub checked : 0 < wide_of s c → 0 < c.records → records_in s c.parent gs (fragments_of ws) ≡ fine
  pub counted : 0 < wide_of s c → 0 < c.records → length (column_records s gs ws c) ≡ c.records
  pub small : 0 < wide_of s c → 0 < c.records → size_of (fragments_of ws) ≤ most64
  pub ends : length (blocks_bytes s size gs ws c) ≤ room

-- the places of records that are kept are right: of stretches in p, of each record in q. gs_of and ws_of give the groups and the words of the
-- fragments of each DG
pub record PlacesKept (s : List ℕ) (gs_of ws_of : ℕ → List ℕ) (p q : List ℕ) : Type 0 where
  pub stretches : Pooled s gs_of ws_of p
  pub offsets : Kept s gs_of ws_of q

-- exactly the blocks come to stand, at the front; the places that are kept stay right
abbrev pub WritesBlocks : List ℕ → ℕ → List ℕ → List ℕ → Column → List ℕ → List ℕ → List ℕ → List ℕ → List ℕ → List ℕ → Type 0
WritesBlocks s size gs ws c p last-p q last-q out last =
    (gs_of ws_of : ℕ → List ℕ) → gs_of c.parent ≡ gs → ws_of c.parent ≡ ws → PlacesKept s gs_of ws_of p q → BlocksReady s size gs ws c (length out)
    → PlacesKept s gs_of ws_of last-p last-q × (last ≡ blit 0 (blocks_bytes s size gs ws c) out)
