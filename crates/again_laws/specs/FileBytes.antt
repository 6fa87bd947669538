-- The file is of bytes, where the image and what is lent are: a law for each kind of block.
use Prim.Native.Nat.{ℕ, zero, suc, ◌+◌, ◌-◌, ◌*◌, ◌<◌}
use mathlib.Core.List.{List, [], ◌∷◌, ◌++◌}
use Rattle.std.specs.Prelude.{Bool, eqb, drop}
use Rattle.std.proofs.Math.Bool.{true, false}
use Rattle.std.proofs.Math.Option.{Option, none, some}
use native.Mathlib.Omega.{arith}
use Rattle.std.proofs.Math.ListN.{length}
use Rattle.base.specs.Choice.{pick, if_eq}
use Rattle.base.specs.Field.{le_at}
use Rattle.base.specs.Blit.{blit}
use Rattle.mdf.specs.Block.{kind_hd, kind_dg, kind_cg, kind_cn, kind_dl, kind_sd, kind_md, kind_at, size_at, links_at, link_at, data_at}
use Rattle.mdf.specs.Group.{group_flags}
use Rattle.plan.specs.Channel.{channel_type, channel_bytes, channel_flags, keeps_inval, inval_bit, byte_offset}
use Rattle.plan.specs.Columns.{Column, Signal, no_signal, signal_data}
use Rattle.plan.specs.Copies.{kind_fh, Copy, Attachment}
use Rattle.plan.specs.Geometry.{per_full}
use Rattle.plan.specs.Layout.{Layout, Placed, column_width, column_blocks, cg_links, cg_size, cn_size, dl_size, cg_of, cn_of, dl_of, md_size}
use Rattle.plan.specs.Rules.{Rules}
use Rattle.result.specs.Payload.{cell, cells, payloads, column_payloads, signal_bytes}
use Rattle.result.specs.Fill.{Block, block, header, words, new_link, new_links, history_link, first_new, copied_links, data_of, copied_bytes, copied_blocks, md_bytes, fh_bytes, next_dg, dg_bytes, cg_flags, cg_at, master_link, one, cg_data, cg_bytes, stored_type, cn_flags, cn_data, sd_link, photo_links, cn_bytes, block_links, column_payload, dl_bytes, dl_blocks, structure_blocks, data_kind, block_of, payload_blocks, sd_blocks, data_blocks, next_attachment, at_bytes, attachment_blocks, hd_data, hd_bytes}
use Rattle.result.specs.Result.{Args, rules_of, first_fh, memo_of, hd_block, blocks_of, flat, file_of}
use Rattle.guarantee.specs.Theorem.{AllBytes}
use Rattle.again_laws.specs.Bytes.{Bytes, Bytes.none, Bytes.next, bytes_of, bytes-all, bytes-append, bytes_take, bytes-part, bytes-zeros, bytes-blit, bytes_le, bytes-pick, Rows, no_rows, row, rows_take, rows_drop, joined_bytes, records_rows}

-- ---- blocks of bytes, one after the other
pub data Blocks : List Block → Type 0 where
  no_blocks : Blocks []
  more : {b : Block} {bs : List Block} → Bytes b.bytes → Blocks bs → Blocks (b ∷ bs)

pub blocks-append : {xs ys : List Block} → Blocks xs → Blocks ys → Blocks (xs ++ ys)
blocks-append no_blocks k = k
blocks-append (more h l) k = more h (blocks-append l k)

pub flat-bytes : {bs : List Block} (a e : ℕ) → Blocks bs → Bytes (flat a bs e)
unfolding flat
flat-bytes a e no_blocks = bytes-zeros (e - a)
flat-bytes a e (more {b} h l) =
    bytes-append (bytes-append (bytes-zeros (b.at - a)) h) (flat-bytes (b.at + length b.bytes) e l)

-- ---- parts of blocks
header-bytes : (kind size links : ℕ) → Bytes (header kind size links)
unfolding header
header-bytes kind size links = bytes-append (bytes-append (bytes-append (bytes_le 4 kind) (bytes_le 4 0)) (bytes_le 8 size)) (bytes_le 8 links)

words-bytes : (xs : List ℕ) → Bytes (words xs)
unfolding words
words-bytes [] = none
words-bytes (x ∷ xs) = bytes-append (bytes_le 8 x) (words-bytes xs)

links_bytes : (payload n a : ℕ) → Bytes (block_links payload n a)
unfolding block_links
links_bytes payload zero a = none
links_bytes payload (suc n) a = bytes-append (bytes_le 8 a) (links_bytes payload n (a + (24 + payload)))

master_bytes : (ps : List Placed) (m : Option ℕ) → Bytes (master_link ps m)
master_bytes ps none = none
master_bytes ps (some m) = bytes_le 8 (cg_at m ps)

pub framed_bytes : {bs : List ℕ} (kind : ℕ) → Bytes bs → Bytes (block_of kind bs)
unfolding block_of
framed_bytes {bs} kind h = bytes-append (header-bytes kind (24 + length bs) 0) h

-- ---- MD and FH
md_bytes_lem : (text : List ℕ) → Bytes text → Bytes (md_bytes text)
unfolding md_bytes
md_bytes_lem text h = bytes-append (bytes-append (header-bytes kind_md (md_size (length text)) 0) h) (bytes-zeros (md_size (length text) - (24 + length text)))

fh_bytes_lem : (md time : ℕ) → Bytes (fh_bytes md time)
unfolding fh_bytes
fh_bytes_lem md time =
    bytes-append (bytes-append (bytes-append (bytes-append (header-bytes kind_fh 56 2) (bytes_le 8 0)) (bytes_le 8 md)) (bytes_le 8 time))
    (bytes_le 8 0)

-- ---- what an image of bytes gives
module _ {s : List ℕ} (b : Bytes s) where
  new_bytes : (memo : List Copy) (k p : ℕ) → Bytes (new_links s memo k p)
  unfolding new_links
  new_bytes memo zero p = none
  new_bytes memo (suc k) p = bytes-append (bytes_le 8 (new_link memo (le_at 8 s p))) (new_bytes memo k (p + 8))

  copied_links_lem : (chain : List ℕ) (memo : List Copy) (fh a k : ℕ) → Bytes (copied_links s chain memo fh a k)
  unfolding copied_links
  copied_links_lem chain memo fh a zero = none
  copied_links_lem chain memo fh a (suc k) = bytes-append (bytes_le 8 (first_new s memo a (history_link a chain memo fh))) (new_bytes memo k (a + 32))

  data_bytes_lem : (a : ℕ) → Bytes (data_of s a)
  unfolding data_of
  data_bytes_lem a = bytes-part (data_at s a) (size_at s a - (24 + 8 * links_at s a)) b

  copied-bytes : (chain : List ℕ) (memo : List Copy) (fh a : ℕ) → Bytes (copied_bytes s chain memo fh a)
  unfolding copied_bytes
  copied-bytes chain memo fh a =
      bytes-append (bytes-append (header-bytes (kind_at s a) (size_at s a) (links_at s a)) (copied_links_lem chain memo fh a (links_at s a)))
      (data_bytes_lem a)

  copied-blocks : (chain : List ℕ) (memo : List Copy) (fh : ℕ) (cs : List Copy) → Blocks (copied_blocks s chain memo fh cs)
  unfolding copied_blocks
  copied-blocks chain memo fh [] = no_blocks
  copied-blocks chain memo fh (c ∷ cs) = more (copied-bytes chain memo fh c.from) (copied-blocks chain memo fh cs)

  -- ---- HD, DG, CG, CN, DL
  hd-bytes : (dg fh at comment : ℕ) → Bytes (hd_bytes s dg fh at comment)
  unfolding hd_bytes hd_data
  hd-bytes dg fh at comment =
      bytes-append (bytes-append (bytes-append (bytes-append (bytes-append (bytes-append (bytes-append (header-bytes kind_hd 104 6)
      (bytes_le 8 dg)) (bytes_le 8 fh)) (bytes_le 8 0)) (bytes_le 8 at)) (bytes_le 8 0)) (bytes_le 8 comment))
      (bytes_take 32 (bytes-append (data_bytes_lem 64) (bytes-zeros 32)))

  dg-bytes : (size : ℕ) (memo : List Copy) (p : Placed) (n : ℕ) → Bytes (dg_bytes s size memo p n)
  unfolding dg_bytes
  dg-bytes size memo p n =
      bytes-append (bytes-append (bytes-append (bytes-append (bytes-append (header-bytes kind_dg 64 4) (bytes_le 8 n))
      (bytes_le 8 (cg_of p))) (bytes_le 8 (if_eq (column_blocks s size p.column) 0 0 (dl_of p))))
      (bytes_le 8 (new_link memo (link_at s p.column.group.data_group.at 3)))) (bytes_le 8 0)

  cg_data_lem : (c : Column) → Bytes (cg_data s c)
  unfolding cg_data
  cg_data_lem c =
      bytes-append (bytes-append (bytes-append (bytes-append (bytes-append (bytes-append (bytes_le 8 0) (bytes_le 8 c.group.records))
      (bytes_le 2 (cg_flags (group_flags s c.group.at) c.master))) (bytes-part (data_at s c.group.at + 18) 2 b)) (bytes_le 4 0))
      (bytes_le 4 (channel_bytes s c.channel))) (bytes_le 4 (one (keeps_inval s c.group.at c.channel)))

  cg-bytes : (memo : List Copy) (ps : List Placed) (p : Placed) → Bytes (cg_bytes s memo ps p)
  unfolding cg_bytes
  cg-bytes memo ps p =
      bytes-append (bytes-append (bytes-append (bytes-append (bytes-append (bytes-append (bytes-append (bytes-append (header-bytes kind_cg (cg_size p.column.master)
      (cg_links p.column.master)) (bytes_le 8 0)) (bytes_le 8 (cn_of p))) (bytes_le 8 (new_link memo (link_at s p.column.group.at 2))))
      (bytes_le 8 (new_link memo (link_at s p.column.group.at 3)))) (bytes_le 8 0))
      (bytes_le 8 (new_link memo (link_at s p.column.group.at 5)))) (master_bytes ps p.column.master)) (cg_data_lem p.column)

  cn_data_lem : (table : List ℕ) (g c n : ℕ) → Bytes (cn_data table s g c n)
  unfolding cn_data
  cn_data_lem table g c n =
      bytes-append (bytes-append (bytes-append (bytes-append (bytes-append (bytes-append (bytes-append (bytes-append (bytes_le 1 (stored_type table (channel_type s c)))
      (bytes-part (data_at s c + 1) 3 b)) (bytes_le 4 0)) (bytes-part (data_at s c + 8) 4 b)) (bytes_le 4 (cn_flags (channel_flags s c)
      (keeps_inval s g c)))) (bytes_le 4 0)) (bytes-part (data_at s c + 20) 2 b)) (bytes_le 2 n)) (bytes-part (data_at s c + 24) 48 b)

  cn-bytes : (o : Rules) (memo : List Copy) (ats : List Attachment) (p : Placed) → Bytes (cn_bytes o s memo ats p)
  unfolding cn_bytes
  cn-bytes o memo ats p =
      bytes-append (bytes-append (bytes-append (bytes-append (bytes-append (bytes-append (bytes-append (bytes-append (bytes-append (bytes-append (header-bytes kind_cn (cn_size p.column)
      (8 + length p.column.photos)) (bytes_le 8 0)) (bytes_le 8 0)) (bytes_le 8 (new_link memo (link_at s p.column.channel 2))))
      (bytes_le 8 (new_link memo (link_at s p.column.channel 3)))) (bytes_le 8 (new_link memo (link_at s p.column.channel 4))))
      (bytes_le 8 (sd_link p.column.signal_of p.sd))) (bytes_le 8 (new_link memo (link_at s p.column.channel 6))))
      (bytes_le 8 (new_link memo (link_at s p.column.channel 7)))) (words-bytes (photo_links ats p.column.photos))) (cn_data_lem o.table
      p.column.group.at p.column.channel (length p.column.photos))

  dl-bytes : (size : ℕ) (p : Placed) → Bytes (dl_bytes s size p)
  unfolding dl_bytes
  dl-bytes size p =
      let n : ℕ = column_blocks s size p.column in
      let q : ℕ = column_payload s size p.column in
      bytes-append (bytes-append (bytes-append (bytes-append (bytes-append (header-bytes kind_dl (dl_size n) (n + 1)) (bytes_le 8 0))
      (links_bytes q n p.first)) (bytes_le 4 1)) (bytes_le 4 n)) (bytes_le 8 q)

  list-blocks : (size : ℕ) (p : Placed) → Blocks (dl_blocks s size p)
  unfolding dl_blocks if_eq
  list-blocks size p = go (eqb (column_blocks s size p.column) 0)
    where
      go : (t : Bool) → Blocks (pick t [] (block (dl_of p) (dl_bytes s size p) ∷ []))
      go true = no_blocks
      go false = more (dl-bytes size p) no_blocks

  structure-blocks : (o : Rules) (size : ℕ) (memo : List Copy) (ats : List Attachment) (all ps : List Placed)
      → Blocks (structure_blocks o s size memo ats all ps)
  unfolding structure_blocks
  structure-blocks o size memo ats all [] = no_blocks
  structure-blocks o size memo ats all (p ∷ ps) =
      more (dg-bytes size memo p (next_dg ps)) (more (cg-bytes memo all p) (more (cn-bytes o memo ats p)
      (blocks-append (list-blocks size p) (structure-blocks o size memo ats all ps))))

  -- ---- data blocks and SD

  -- "as one byte, 0 or 1"
  bit_byte : (g c : ℕ) (r : List ℕ) → inval_bit s g c r < 256
  unfolding inval_bit
  bit_byte g c r = omega arith

  cell-bytes : (g c : ℕ) (r : List ℕ) → Bytes r → Bytes (cell s g c r)
  unfolding cell
  cell-bytes g c r h =
      bytes-append (bytes-part (byte_offset s c) (channel_bytes s c) h) (bytes-pick (keeps_inval s g c) (next (bit_byte g c r) none) none)

  cells-bytes : {rs : List (List ℕ)} (g c : ℕ) → Rows rs → Bytes (cells s g c rs)
  unfolding cells
  cells-bytes g c no_rows = none
  cells-bytes g c (row {r} h l) = bytes-append (cell-bytes g c r h) (cells-bytes g c l)

  payloads_rows : {rs : List (List ℕ)} (g c m k : ℕ) → Rows rs → Rows (payloads s g c m k rs)
  unfolding payloads
  payloads_rows g c m zero h = no_rows
  payloads_rows g c m (suc k) h = row (cells-bytes g c (rows_take m h)) (payloads_rows g c m k (rows_drop m h))

  column_rows : (size : ℕ) (c : Column) → Rows (column_payloads s size c)
  unfolding column_payloads
  column_rows size c =
      payloads_rows c.group.at c.channel (per_full size (column_width s c) c.group.records) (column_blocks s size c) (records_rows b c.group)

  signal_bytes_lem : (g : Signal) → Bytes (signal_bytes s g)
  signal_bytes_lem no_signal = none
  signal_bytes_lem (signal_data fs) = joined_bytes b fs

  payload_blocks_lem : {ps : List (List ℕ)} (kind a : ℕ) → Rows ps → Blocks (payload_blocks kind a ps)
  unfolding payload_blocks
  payload_blocks_lem kind a no_rows = no_blocks
  payload_blocks_lem kind a (row {r} h l) = more (framed_bytes kind h) (payload_blocks_lem kind (a + (24 + length r)) l)

  sd_blocks_lem : (g : Signal) (a : ℕ) → Blocks (sd_blocks s g a)
  sd_blocks_lem no_signal a = no_blocks
  sd_blocks_lem (signal_data fs) a = more (framed_bytes kind_sd (signal_bytes_lem (signal_data fs))) no_blocks

  data_blocks_lem : (size : ℕ) (ps : List Placed) → Blocks (data_blocks s size ps)
  unfolding data_blocks
  data_blocks_lem size [] = no_blocks
  data_blocks_lem size (p ∷ ps) =
      blocks-append (payload_blocks_lem (data_kind (keeps_inval s p.column.group.at p.column.channel)) p.first (column_rows size p.column))
      (blocks-append (sd_blocks_lem p.column.signal_of p.sd) (data_blocks_lem size ps))

  -- ---- attachments
  at-bytes : (memo : List Copy) (a n : ℕ) → Bytes (at_bytes s memo a n)
  unfolding at_bytes
  at-bytes memo a n =
      bytes-append (bytes-append (bytes-append (bytes-part a 24 b) (bytes_le 8 n)) (new_bytes memo (links_at s a - 1) (a + 32)))
      (data_bytes_lem a)

  attachment-blocks : (chain : List ℕ) (memo : List Copy) (fh : ℕ) (ts : List Attachment) → Blocks (attachment_blocks s chain memo fh ts)
  unfolding attachment_blocks
  attachment-blocks chain memo fh [] = no_blocks
  attachment-blocks chain memo fh (t ∷ ts) =
      blocks-append (copied-blocks chain memo fh t.own) (more (at-bytes memo t.from (next_attachment ts)) (attachment-blocks chain memo fh ts))

-- ---- the file
all_blocks : (x : Args) (l : Layout) → Bytes x.image → Bytes x.ident → Bytes x.text → Blocks (blocks_of x l)
unfolding blocks_of hd_block
all_blocks x l b i t =
    let past : List Copy = l.past.made.memo in
    more i (more (hd-bytes b (next_dg l.placed) (first_fh (memo_of l) l.past.chain l.fh) (next_attachment l.attached.attachments) (new_link (memo_of l) (link_at x.image 64 5)))
    (blocks-append (copied-blocks b l.past.chain (memo_of l) l.fh past)
    (more (md_bytes_lem x.text t) (more (fh_bytes_lem l.md x.time)
    (blocks-append (copied-blocks b l.past.chain (memo_of l) l.fh (drop (length past) l.metadata.memo))
    (blocks-append (structure-blocks b (rules_of x) x.block_size (memo_of l) l.attached.attachments l.placed l.placed)
    (blocks-append (data_blocks_lem b x.block_size l.placed) (attachment-blocks b l.past.chain (memo_of l) l.fh l.attached.attachments))))))))

-- the file of any call whose image, identification and text are bytes
pub file-bytes : (x : Args) (l : Layout) → AllBytes x.image → AllBytes x.ident → AllBytes x.text → AllBytes (file_of x l)
unfolding file_of
file-bytes x l b i t = bytes-all (flat-bytes 0 l.file_size_lem (all_blocks x l (bytes_of x.image b) (bytes_of x.ident i) (bytes_of x.text t)))

-- and the output that it is laid over
pub final_bytes : (x : Args) (l : Layout) (out : List ℕ) → AllBytes x.image → AllBytes x.ident → AllBytes x.text → AllBytes out
    → AllBytes (blit 0 (file_of x l) out)
final_bytes x l out b i t o = bytes-all (bytes-blit 0 (bytes_of (file_of x l) (file-bytes x l b i t)) (bytes_of out o))
