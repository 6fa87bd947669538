-- Where every block of the result is placed (document 01, placement): "From 168, each block at the next multiple of 8: HD comment; history chain; MD with
-- the lent history text ..; a new FH ..; per column the copies ..; Then per column DG 64, CG 104 (112 with a master), CN 160, and if it has n blocks
-- DL 24 + 8(n + 1) + 16 bytes. Then per column its blocks, 24 + payload apart, and its SD; then attachments, each after the blocks newly copied for it."
use Rattle.std.specs.Prelude.{ℕ, ◌+◌, ◌*◌, List, [], ◌∷◌, length}
use Rattle.std.proofs.Math.Option.{Option, none, some}
use Rattle.base.specs.Choice.{if_eq}
use Rattle.base.specs.Checked.{Checked, ok, and_then}
use Rattle.mdf.specs.Block.{link_at}
use Rattle.mdf.specs.Records.{size_of}
use Rattle.plan.specs.Channel.{width}
use Rattle.plan.specs.Columns.{Column, Signal, no_signal, signal_data}
use Rattle.plan.specs.Geometry.{align8, align_to, block_count}
use Rattle.plan.specs.Rules.{Rules}
use Rattle.plan.specs.Copies.{Copies, copies, most_copies, copy_root, History, history_of, column_copies, Attached, attachments_of}

-- ---- one column

-- its width
unfoldable pub column_width : List ℕ → Column → ℕ
column_width s c = width s c.group.at c.channel

-- the number of its data blocks, for a block size
unfoldable pub column_blocks : List ℕ → ℕ → Column → ℕ
column_blocks s size c = block_count size (column_width s c) c.group.records

-- the links of its CG: six, "seventh link" with a master
abbrev pub cg_links : Option ℕ → ℕ
cg_links none = 6
cg_links (some m) = 7

-- "CG 104 (112 with a master)"
abbrev pub cg_size : Option ℕ → ℕ
cg_size none = 104
cg_size (some m) = 112

-- "if it has n blocks DL 24 + 8(n + 1) + 16 bytes"
unfoldable pub dl_size : ℕ → ℕ
dl_size n = if_eq n 0 0 (24 + 8 * (n + 1) + 16)

-- "CN 160", and "CN takes 160 + 8 times that count" of the references that it keeps (document 02, request 9)
unfoldable pub cn_size : Column → ℕ
cn_size c = 160 + 8 * length c.photos

-- "DG 64, CG 104 (112 with a master), CN 160, and .. DL" together
unfoldable pub structure_size : List ℕ → ℕ → Column → ℕ
structure_size s size c = 64 + cg_size c.master + cn_size c + dl_size (column_blocks s size c)

-- "payload bytes": all bytes of its records
unfoldable pub payload_size : List ℕ → Column → ℕ
payload_size s c = column_width s c * c.group.records

-- ---- placement, by sizes alone

-- bookkeeping: the bytes of a column's DG, CG, CN and DL; the number of its data blocks and the bytes of their payloads; those of its SD's
-- data, if it has one
pub record Sizes : Type 0 where
  pub structure : ℕ
  pub blocks : ℕ
  pub payload : ℕ
  pub signal : Option ℕ

-- bookkeeping: the places of its DG, of its first data block and of its SD; CG, CN and DL follow the DG
pub record Places : Type 0 where
  pub dg : ℕ
  pub first : ℕ
  pub sd : ℕ

-- "each column's first data block .. starts on the next multiple" of the unit u (document 02, request 5), past d; without blocks nothing moves
unfoldable pub first_at : ℕ → Sizes → ℕ → ℕ
first_at u z d = if_eq z.blocks 0 d (align_to u d)

-- "its blocks, 24 + payload apart": past them, which begin at d
unfoldable pub blocks_end : Sizes → ℕ → ℕ
blocks_end z d = align8 (d + (24 * z.blocks + z.payload))

-- "and each SD block starts on the next multiple" of the unit (document 02, request 5), past d
abbrev pub signal_at : ℕ → Option ℕ → ℕ → ℕ
signal_at u none d = d
signal_at u (some n) d = align_to u d

-- "and its SD": past it, which begins at d
abbrev pub signal_end : Option ℕ → ℕ → ℕ
signal_end none d = d
signal_end (some n) d = align8 (d + (24 + n))

-- "Then per column its blocks, 24 + payload apart, and its SD": from d on
abbrev pub places_at : ℕ → ℕ → ℕ → Sizes → Places
places_at u a d z = record { dg = a; first = first_at u z d; sd = signal_at u z.signal (blocks_end z (first_at u z d)) }

-- bookkeeping: the end of its data blocks and SD
abbrev pub past_data : ℕ → Sizes → ℕ → ℕ
past_data u z d = signal_end z.signal (signal_at u z.signal (blocks_end z (first_at u z d)))

-- "Then per column DG ..; Then per column its blocks .. and its SD": from a on the blocks that make up columns, from d on their data
unfoldable pub places_from : ℕ → ℕ → ℕ → List Sizes → List Places
places_from u a d [] = []
places_from u a d (z ∷ zs) = places_at u a d z ∷ places_from u (a + z.structure) (past_data u z d) zs

-- "the metadata's end": past the blocks that make up columns
unfoldable pub structures_end : ℕ → List Sizes → ℕ
structures_end a [] = a
structures_end a (z ∷ zs) = structures_end (a + z.structure) zs

-- bookkeeping: past the data of columns
unfoldable pub places_end : ℕ → ℕ → List Sizes → ℕ
places_end u d [] = d
places_end u d (z ∷ zs) = places_end u (past_data u z d) zs

-- ---- all columns

-- bookkeeping: a column and its places
pub record Placed : Type 0 where
  pub column : Column
  pub dg : ℕ
  pub first : ℕ
  pub sd : ℕ

-- "per column DG 64, CG .., CN 160, and .. DL": where CG, CN and DL begin
abbrev pub cg_of : Placed → ℕ
cg_of p = p.dg + 64

abbrev pub cn_of : Placed → ℕ
cn_of p = cg_of p + cg_size p.column.master

abbrev pub dl_of : Placed → ℕ
dl_of p = cn_of p + cn_size p.column

-- bookkeeping: the sizes of a column
abbrev pub signal_sizes : Signal → Option ℕ
signal_sizes no_signal = none
signal_sizes (signal_data fs) = some (size_of fs)

-- bookkeeping: the sizes of a column, of all columns
abbrev pub column_sizes : List ℕ → ℕ → Column → Sizes
column_sizes s size c =
    record {
      structure = structure_size s size c;
      blocks = column_blocks s size c;
      payload = payload_size s c;
      signal = signal_sizes c.signal_of;
    }

unfoldable pub sizes_of : List ℕ → ℕ → List Column → List Sizes
sizes_of s size [] = []
sizes_of s size (c ∷ cs) = column_sizes s size c ∷ sizes_of s size cs

-- bookkeeping: a column with its places, all columns with theirs
abbrev pub placed_at : Column → Places → Placed
placed_at c p = record { column = c; dg = p.dg; first = p.first; sd = p.sd }

unfoldable pub with_places : List Column → List Places → List Placed
with_places [] ps = []
with_places (c ∷ cs) [] = []
with_places (c ∷ cs) (p ∷ ps) = placed_at c p ∷ with_places cs ps

-- the columns placed, from a and d on
abbrev pub placed_from : Rules → List ℕ → ℕ → ℕ → ℕ → List Column → List Placed
placed_from o s size a d cs = with_places cs (places_from o.unit a d (sizes_of s size cs))

-- past the blocks that make them up, and past their data
abbrev pub structure_end : List ℕ → ℕ → ℕ → List Column → ℕ
structure_end s size a cs = structures_end a (sizes_of s size cs)

abbrev pub data_end : Rules → List ℕ → ℕ → ℕ → List Column → ℕ
data_end o s size d cs = places_end o.unit d (sizes_of s size cs)

-- ---- the file

-- "MD with the lent history text, a zero byte and padding to a multiple of 8"
unfoldable pub md_size : ℕ → ℕ
md_size n = align8 (24 + n + 1)

-- bookkeeping: the places of everything, and the copies after each stage
pub record Layout : Type 0 where
  pub comment : Copies  -- after the HD comment
  pub past : History  -- after the history chain
  pub md : ℕ  -- the new MD
  pub fh : ℕ  -- the new FH
  pub metadata : Copies  -- after the columns' metadata
  pub placed : List Placed
  pub metadata_end_lem : ℕ
  pub attached : Attached
  pub file_size_lem : ℕ

-- "each block at the next multiple of 8": the new MD after the copies
unfoldable pub past_copies : Copies → ℕ
past_copies m = align8 m.next

-- the new FH after it
unfoldable pub fh_place : Copies → ℕ → ℕ
fh_place m n = past_copies m + md_size n

-- "metadata; attachments": the places, and the refusals in document 01's order; n bytes of history text
unfoldable pub layout : Rules → List ℕ → ℕ → ℕ → List Column → Checked Layout
layout o s size n cs =
    and_then (copy_root most_copies s (link_at s 64 5) (copies [] 168)) (λ m0.
    and_then (history_of most_copies s (link_at s 64 1) m0) (λ h.
    and_then (column_copies most_copies s cs (copies h.made.memo (fh_place h.made n + 56))) (λ m2.
    and_then (attachments_of most_copies s (link_at s 64 3) (copies m2.memo (data_end o s size (structure_end s size (past_copies m2) cs) cs))) (λ t.
    ok (record {
      comment = m0;
      past = h;
      md = past_copies h.made;
      fh = fh_place h.made n;
      metadata = m2;
      placed = placed_from o s size (past_copies m2) (structure_end s size (past_copies m2) cs) cs;
      metadata_end_lem = structure_end s size (past_copies m2) cs;
      attached = t;
      file_size_lem = t.made.next;
    })))))
