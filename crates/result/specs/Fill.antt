-- The bytes of every block of the result: "Field values are those of `build_layout` and `copy_attachments`. DL data (ASAM MDF 4.2 ..): byte 1,
-- three zeros, 32-bit n, 64-bit payload. Identification block, history text and time are lent."
use Rattle.std.specs.Prelude.{ℕ, zero, suc, ◌+◌, ◌*◌, ◌-◌, ◌/◌, List, [], ◌∷◌, ◌++◌, Bool, true, false, length, take, replicate}
use Rattle.std.proofs.Math.Option.{Option, none, some}
use Rattle.base.specs.Choice.{pick, if_eq}
use Rattle.base.specs.Field.{le_at, le}
use Rattle.base.specs.Blit.{part}
use Rattle.mdf.specs.Block.{kind_hd, kind_dg, kind_cg, kind_cn, kind_dt, kind_dv, kind_dl, kind_sd, kind_md, kind_at, size_at, links_at, link_at, data_at}
use Rattle.mdf.specs.Group.{group_flags}
use Rattle.plan.specs.Rules.{Rules}
use Rattle.plan.specs.Table.{treatment}
use Rattle.plan.specs.Channel.{channel_type, channel_bytes, channel_flags, keeps_inval, bit}
use Rattle.plan.specs.Columns.{Column, Signal, no_signal, signal_data}
use Rattle.plan.specs.Geometry.{block_payload}
use Rattle.plan.specs.Copies.{kind_fh, Copy, copy_of, Attachment}
use Rattle.plan.specs.Layout.{column_width, column_blocks, cg_links, cg_size, cn_size, dl_size, Placed, cg_of, cn_of, dl_of, md_size}
use Rattle.result.specs.Payload.{column_payloads, signal_bytes}

-- bookkeeping: a block of the result: its address and its bytes
pub record Block : Type 0 where
  pub at : ℕ
  pub bytes : List ℕ

-- bookkeeping: the two together
abbrev pub block : ℕ → List ℕ → Block
block a bs = record { at = a; bytes = bs }

-- ASAM MDF 4.2, block header: kind, four zero bytes, length, number of links
unfoldable pub header : ℕ → ℕ → ℕ → List ℕ
header kind size links = le 4 kind ++ le 4 0 ++ le 8 size ++ le 8 links

-- bookkeeping: 64-bit fields one after the other
unfoldable pub words : List ℕ → List ℕ
words [] = []
words (x ∷ xs) = le 8 x ++ words xs

-- ---- copies

-- "Kinds other than TX, MD, CC, SI, FH become link 0."
abbrev pub or_zero : Option ℕ → ℕ
or_zero none = 0
or_zero (some a) = a

-- where a link leads in the result
unfoldable pub new_link : List Copy → ℕ → ℕ
new_link memo a = or_zero (copy_of a memo)

-- bookkeeping: the links that stand at p, so many of them, led to the copies
unfoldable pub new_links : List ℕ → List Copy → ℕ → ℕ → List ℕ
new_links s memo zero p = []
new_links s memo (suc k) p = le 8 (new_link memo (le_at 8 s p)) ++ new_links s memo k (p + 8)

-- a block of the history chain leads by its first link to the copy of the next, the last to the new FH
unfoldable pub history_link : ℕ → List ℕ → List Copy → ℕ → Option ℕ
history_link a [] memo fh = none
history_link a (b ∷ []) memo fh = if_eq b a (some fh) none
history_link a (b ∷ c ∷ bs) memo fh = let later = history_link a (c ∷ bs) memo fh in if_eq b a (some (new_link memo c)) later

-- the first of k links of the block at a: by the history, "An FH loses its first link", else as any other
abbrev pub first_new : List ℕ → List Copy → ℕ → Option ℕ → ℕ
first_new s memo a (some x) = x
first_new s memo a none = if_eq (kind_at s a) kind_fh 0 (new_link memo (link_at s a 0))

-- the links of a copied block
unfoldable pub copied_links : List ℕ → List ℕ → List Copy → ℕ → ℕ → ℕ → List ℕ
copied_links s chain memo fh a zero = []
copied_links s chain memo fh a (suc k) = le 8 (first_new s memo a (history_link a chain memo fh)) ++ new_links s memo k (a + 32)

-- bookkeeping: what follows the links of the block at a
unfoldable pub data_of : List ℕ → ℕ → List ℕ
data_of s a = part (data_at s a) (size_at s a - (24 + 8 * links_at s a)) s

-- a copied block: reserved bytes zero, links led to the copies, data as it was (`build_layout`)
unfoldable pub copied_bytes : List ℕ → List ℕ → List Copy → ℕ → ℕ → List ℕ
copied_bytes s chain memo fh a =
    header (kind_at s a) (size_at s a) (links_at s a) ++ copied_links s chain memo fh a (links_at s a) ++ data_of s a

-- bookkeeping: copied blocks at their places
unfoldable pub copied_blocks : List ℕ → List ℕ → List Copy → ℕ → List Copy → List Block
copied_blocks s chain memo fh [] = []
copied_blocks s chain memo fh (c ∷ cs) = block c.to (copied_bytes s chain memo fh c.from) ∷ copied_blocks s chain memo fh cs

-- ---- the new MD and FH
unfoldable pub md_bytes : List ℕ → List ℕ
md_bytes text = header kind_md (md_size (length text)) 0 ++ text ++ replicate (md_size (length text) - (24 + length text)) 0

-- "a new FH with the lent time": 56 bytes, links to no next FH and to the MD, time, zeros
unfoldable pub fh_bytes : ℕ → ℕ → List ℕ
fh_bytes md time = header kind_fh 56 2 ++ le 8 0 ++ le 8 md ++ le 8 time ++ le 8 0

-- ---- a column's DG, CG, CN and DL
abbrev pub next_dg : List Placed → ℕ
next_dg [] = 0
next_dg (p ∷ ps) = p.dg

-- DG: the next DG, its CG, its DL, the DG comment; id size 0
unfoldable pub dg_bytes : List ℕ → ℕ → List Copy → Placed → ℕ → List ℕ
dg_bytes s size memo p next =
    header kind_dg 64 4 ++ le 8 next ++ le 8 (cg_of p) ++ le 8 (if_eq (column_blocks s size p.column) 0 0 (dl_of p))
    ++ le 8 (new_link memo (link_at s p.column.group.data_group.at 3)) ++ le 8 0

-- flag bits 0 to 3 are cleared; bit 3, remote master, is set with a master
abbrev pub cg_flags : ℕ → Option ℕ → ℕ
cg_flags f none = f / 16 * 16
cg_flags f (some m) = f / 16 * 16 + 8

-- bookkeeping: the CG of column number m
unfoldable pub cg_at : ℕ → List Placed → ℕ
cg_at m [] = 0
cg_at zero (p ∷ ps) = cg_of p
cg_at (suc m) (p ∷ ps) = cg_at m ps

-- the CG's "seventh link"
abbrev pub master_link : List Placed → Option ℕ → List ℕ
master_link ps none = []
master_link ps (some m) = le 8 (cg_at m ps)

-- bookkeeping: 1 for true
abbrev pub one : Bool → ℕ
one b = pick b 1 0

-- the CG's data: record id 0, records, flags, path separator as it was, data bytes, invalidation byte
unfoldable pub cg_data : List ℕ → Column → List ℕ
cg_data s c =
    le 8 0 ++ le 8 c.group.records ++ le 2 (cg_flags (group_flags s c.group.at) c.master) ++ part (data_at s c.group.at + 18) 2 s
    ++ le 4 0 ++ le 4 (channel_bytes s c.channel) ++ le 4 (one (keeps_inval s c.group.at c.channel))

-- CG: no next CG, its CN, links 3, 4, 6 led to the copies, no first sample reduction
unfoldable pub cg_bytes : List ℕ → List Copy → List Placed → Placed → List ℕ
cg_bytes s memo ps p =
    header kind_cg (cg_size p.column.master) (cg_links p.column.master)
    ++ le 8 0 ++ le 8 (cn_of p) ++ le 8 (new_link memo (link_at s p.column.group.at 2)) ++ le 8 (new_link memo (link_at s p.column.group.at 3))
    ++ le 8 0 ++ le 8 (new_link memo (link_at s p.column.group.at 5)) ++ master_link ps p.column.master
    ++ cg_data s p.column

-- "5 becomes 0", or what a table says: "2 store as type 0" (document 02, request 6)
unfoldable pub stored_type : List ℕ → ℕ → ℕ
stored_type table t = if_eq (treatment table t) 2 0 t

-- flag bit 12 is cleared, and bit 1 where no invalidation bit is kept
abbrev pub cn_flags : ℕ → Bool → ℕ
cn_flags f true = f - bit 12 f * 4096
cn_flags f false = f - bit 12 f * 4096 - bit 1 f * 2

-- the 72 data bytes: type, byte offset 0, flags, invalidation bit 0, n references to attachments; the others as they were
unfoldable pub cn_data : List ℕ → List ℕ → ℕ → ℕ → ℕ → List ℕ
cn_data table s g c n =
    le 1 (stored_type table (channel_type s c)) ++ part (data_at s c + 1) 3 s ++ le 4 0 ++ part (data_at s c + 8) 4 s
    ++ le 4 (cn_flags (channel_flags s c) (keeps_inval s g c)) ++ le 4 0 ++ part (data_at s c + 20) 2 s ++ le 2 n ++ part (data_at s c + 24) 48 s

-- CN link 6: its SD
abbrev pub sd_link : Signal → ℕ → ℕ
sd_link no_signal a = 0
sd_link (signal_data fs) a = a

-- "links lead to the moved AT. Zero references stay zero" (document 02, request 9): where the attachment that stood at a is placed
unfoldable pub moved_to : ℕ → List Attachment → ℕ
moved_to a [] = 0
moved_to a (t ∷ ts) = let later = moved_to a ts in if_eq t.from a t.to later

-- references, each led there
unfoldable pub photo_links : List Attachment → List ℕ → List ℕ
photo_links ats [] = []
photo_links ats (a ∷ as') = moved_to a ats ∷ photo_links ats as'

-- CN: no next CN, no composition, links 3, 4, 5, 7, 8 led to the copies, its SD, "its links after the eighth" to photos
unfoldable pub cn_bytes : Rules → List ℕ → List Copy → List Attachment → Placed → List ℕ
cn_bytes o s memo ats p =
    header kind_cn (cn_size p.column) (8 + length p.column.photos)
    ++ le 8 0 ++ le 8 0 ++ le 8 (new_link memo (link_at s p.column.channel 2)) ++ le 8 (new_link memo (link_at s p.column.channel 3))
    ++ le 8 (new_link memo (link_at s p.column.channel 4)) ++ le 8 (sd_link p.column.signal_of p.sd)
    ++ le 8 (new_link memo (link_at s p.column.channel 6)) ++ le 8 (new_link memo (link_at s p.column.channel 7))
    ++ words (photo_links ats p.column.photos)
    ++ cn_data o.table s p.column.group.at p.column.channel (length p.column.photos)

-- "24 + payload apart": the places of data blocks
unfoldable pub block_links : ℕ → ℕ → ℕ → List ℕ
block_links payload zero a = []
block_links payload (suc n) a = le 8 a ++ block_links payload n (a + (24 + payload))

-- "64-bit payload" of a column's DL
unfoldable pub column_payload : List ℕ → ℕ → Column → ℕ
column_payload s size c = block_payload size (column_width s c) c.group.records

-- DL: no next DL, its blocks; "byte 1, three zeros, 32-bit n, 64-bit payload"
unfoldable pub dl_bytes : List ℕ → ℕ → Placed → List ℕ
dl_bytes s size p =
    header kind_dl (dl_size (column_blocks s size p.column)) (column_blocks s size p.column + 1)
    ++ le 8 0 ++ block_links (column_payload s size p.column) (column_blocks s size p.column) p.first
    ++ le 4 1 ++ le 4 (column_blocks s size p.column) ++ le 8 (column_payload s size p.column)

-- "if it has n blocks": no DL without
unfoldable pub dl_blocks : List ℕ → ℕ → Placed → List Block
dl_blocks s size p = if_eq (column_blocks s size p.column) 0 [] (block (dl_of p) (dl_bytes s size p) ∷ [])

-- "Then per column DG, CG, CN, and .. DL"; all is the list that master numbers count
unfoldable pub structure_blocks : Rules → List ℕ → ℕ → List Copy → List Attachment → List Placed → List Placed → List Block
structure_blocks o s size memo ats all [] = []
structure_blocks o s size memo ats all (p ∷ ps) =
    block p.dg (dg_bytes s size memo p (next_dg ps)) ∷ block (cg_of p) (cg_bytes s memo all p) ∷ block (cn_of p) (cn_bytes o s memo ats p)
    ∷ (dl_blocks s size p ++ structure_blocks o s size memo ats all ps)

-- ---- data blocks: "Blocks are DT with, DV without, an invalidation byte."
abbrev pub data_kind : Bool → ℕ
data_kind true = kind_dt
data_kind false = kind_dv

-- a data block: header and payload
unfoldable pub block_of : ℕ → List ℕ → List ℕ
block_of kind bytes = header kind (24 + length bytes) 0 ++ bytes

-- "its blocks, 24 + payload apart"
unfoldable pub payload_blocks : ℕ → ℕ → List (List ℕ) → List Block
payload_blocks kind a [] = []
payload_blocks kind a (p ∷ ps) = block a (block_of kind p) ∷ payload_blocks kind (a + (24 + length p)) ps

-- "and its SD"
abbrev pub sd_blocks : List ℕ → Signal → ℕ → List Block
sd_blocks s no_signal a = []
sd_blocks s (signal_data fs) a = block a (block_of kind_sd (signal_bytes s (signal_data fs))) ∷ []

-- "Then per column its blocks .. and its SD"
unfoldable pub data_blocks : List ℕ → ℕ → List Placed → List Block
data_blocks s size [] = []
data_blocks s size (p ∷ ps) =
    payload_blocks (data_kind (keeps_inval s p.column.group.at p.column.channel)) p.first (column_payloads s size p.column)
    ++ (sd_blocks s p.column.signal_of p.sd ++ data_blocks s size ps)

-- ---- attachments: as they were but for their links, the first to the next
abbrev pub next_attachment : List Attachment → ℕ
next_attachment [] = 0
next_attachment (t ∷ ts) = t.to

-- an AT: its header as it was, the next AT, its other links led to the copies, its data
unfoldable pub at_bytes : List ℕ → List Copy → ℕ → ℕ → List ℕ
at_bytes s memo a next = part a 24 s ++ le 8 next ++ new_links s memo (links_at s a - 1) (a + 32) ++ data_of s a

-- "attachments, each after the blocks newly copied for it"
unfoldable pub attachment_blocks : List ℕ → List ℕ → List Copy → ℕ → List Attachment → List Block
attachment_blocks s chain memo fh [] = []
attachment_blocks s chain memo fh (t ∷ ts) =
    copied_blocks s chain memo fh t.own ++ (block t.to (at_bytes s memo t.from (next_attachment ts)) ∷ attachment_blocks s chain memo fh ts)

-- ---- HD: always 104 bytes, its data cut or filled to 32
unfoldable pub hd_data : List ℕ → List ℕ
hd_data s = take 32 (data_of s 64 ++ replicate 32 0)

-- HD: the first DG, history and attachment, no hierarchy, no events, the comment
unfoldable pub hd_bytes : List ℕ → ℕ → ℕ → ℕ → ℕ → List ℕ
hd_bytes s first_dg first_fh first_at_lem comment =
    header kind_hd 104 6 ++ le 8 first_dg ++ le 8 first_fh ++ le 8 0 ++ le 8 first_at_lem ++ le 8 0 ++ le 8 comment ++ hd_data s
