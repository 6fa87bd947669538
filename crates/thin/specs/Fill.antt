-- The bytes of the new file: "the first 64 bytes, the data of HD, DG, CG and CN, data block kinds and lengths and history stay" (document 02,
-- request 13); links lead to where blocks are now.
use Rattle.std.specs.Prelude.{ℕ, ◌+◌, List, [], ◌∷◌, ◌++◌, length, take, replicate}
use Rattle.base.specs.Choice.{if_eq}
use Rattle.base.specs.Field.{le}
use Rattle.base.specs.Blit.{part}
use Rattle.mdf.specs.Block.{kind_dg, kind_cg, kind_cn, kind_dt, kind_dv, kind_dl, link_at}
use Rattle.mdf.specs.Chain.{Kind, dt, dv, Fragment}
use Rattle.plan.specs.Copies.{Copy, Attachment}
use Rattle.plan.specs.Layout.{cg_links, cg_size, cn_size, dl_size, Placed, cg_of, cn_of, dl_of, Layout}
use Rattle.result.specs.Fill.{Block, block, header, words, new_link, data_of, copied_blocks, next_dg, master_link, sd_link, photo_links, block_links, block_of, sd_blocks, attachment_blocks}
use Rattle.result.specs.Result.{memo_of, hd_block, flat}
use Rattle.file.specs.Form.{equal_length}
use Rattle.thin.specs.Place.{blocks_of}

-- "the data of HD, DG, CG and CN .. stay": n bytes of the block at a, cut or filled as 01 does
unfoldable pub kept_data : ℕ → List ℕ → ℕ → List ℕ
kept_data n s a = take n (data_of s a ++ replicate n 0)

-- DG: the next DG, its CG, its DL, the DG comment
unfoldable pub kept_dg : List ℕ → List Copy → Placed → ℕ → List ℕ
kept_dg s memo p next =
    header kind_dg 64 4 ++ le 8 next ++ le 8 (cg_of p) ++ le 8 (if_eq (blocks_of p.column) 0 0 (dl_of p))
    ++ le 8 (new_link memo (link_at s p.column.group.data_group.at 3)) ++ kept_data 8 s p.column.group.data_group.at

-- CG: no next CG, its CN, links 3, 4, 6 led to the copies, no first sample reduction, the CG of its master
unfoldable pub kept_cg : List ℕ → List Copy → List Placed → Placed → List ℕ
kept_cg s memo ps p =
    header kind_cg (cg_size p.column.master) (cg_links p.column.master)
    ++ le 8 0 ++ le 8 (cn_of p) ++ le 8 (new_link memo (link_at s p.column.group.at 2)) ++ le 8 (new_link memo (link_at s p.column.group.at 3))
    ++ le 8 0 ++ le 8 (new_link memo (link_at s p.column.group.at 5)) ++ master_link ps p.column.master
    ++ kept_data 32 s p.column.group.at

-- CN: no next CN, no composition, links 3, 4, 5, 7, 8 led to the copies, its SD, its references to attachments
unfoldable pub kept_cn : List ℕ → List Copy → List Attachment → Placed → List ℕ
kept_cn s memo ats p =
    header kind_cn (cn_size p.column) (8 + length p.column.photos)
    ++ le 8 0 ++ le 8 0 ++ le 8 (new_link memo (link_at s p.column.channel 2)) ++ le 8 (new_link memo (link_at s p.column.channel 3))
    ++ le 8 (new_link memo (link_at s p.column.channel 4)) ++ le 8 (sd_link p.column.signal_of p.sd)
    ++ le 8 (new_link memo (link_at s p.column.channel 6)) ++ le 8 (new_link memo (link_at s p.column.channel 7))
    ++ words (photo_links ats p.column.photos)
    ++ kept_data 72 s p.column.channel

-- the length in the DL of the column's DG
unfoldable pub length_kept : List ℕ → Placed → ℕ
length_kept s p = equal_length s (link_at s p.column.group.data_group.at 2)

-- DL: no next DL, its blocks; "byte 1, three zeros, 32-bit n", the length as it was
unfoldable pub kept_dl : List ℕ → Placed → List ℕ
kept_dl s p =
    header kind_dl (dl_size (blocks_of p.column)) (blocks_of p.column + 1)
    ++ le 8 0 ++ block_links (length_kept s p) (blocks_of p.column) p.first
    ++ le 4 1 ++ le 4 (blocks_of p.column) ++ le 8 (length_kept s p)

-- no DL without blocks
unfoldable pub kept_lists : List ℕ → Placed → List Block
kept_lists s p = if_eq (blocks_of p.column) 0 [] (block (dl_of p) (kept_dl s p) ∷ [])

-- "Then per column DG, CG, CN, and .. DL"; all is the list that master numbers count
unfoldable pub kept_structure : List ℕ → List Copy → List Attachment → List Placed → List Placed → List Block
kept_structure s memo ats all [] = []
kept_structure s memo ats all (p ∷ ps) =
    block p.dg (kept_dg s memo p (next_dg ps)) ∷ block (cg_of p) (kept_cg s memo all p) ∷ block (cn_of p) (kept_cn s memo ats p)
    ∷ (kept_lists s p ++ kept_structure s memo ats all ps)

-- "data block kinds .. stay"
abbrev pub kind_number : Kind → ℕ
kind_number dt = kind_dt
kind_number dv = kind_dv

-- blocks with the bytes of the file's, from a on, 24 + payload apart
unfoldable pub moved_blocks : List ℕ → ℕ → List Fragment → List Block
moved_blocks s a [] = []
moved_blocks s a (f ∷ fs) =
    block a (block_of (kind_number f.kind) (part f.offset f.size s)) ∷ moved_blocks s (a + (24 + f.size)) fs

-- "Then per column its blocks .. and its SD"
unfoldable pub kept_blocks : List ℕ → List Placed → List Block
kept_blocks s [] = []
kept_blocks s (p ∷ ps) =
    moved_blocks s p.first p.column.group.data_group.fragments ++ (sd_blocks s p.column.signal_of p.sd ++ kept_blocks s ps)

-- every block, in the order of addresses
unfoldable pub blocks_kept : List ℕ → Layout → List Block
blocks_kept s l =
    block 0 (part 0 64 s) ∷ hd_block s l
    ∷ (copied_blocks s l.past.chain (memo_of l) l.fh l.metadata.memo
    ++ (kept_structure s (memo_of l) l.attached.attachments l.placed l.placed
    ++ (kept_blocks s l.placed
    ++ attachment_blocks s l.past.chain (memo_of l) l.fh l.attached.attachments)))

-- the whole file, "Gaps are zero"
unfoldable pub file_kept : List ℕ → Layout → List ℕ
file_kept s l = flat 0 (blocks_kept s l) l.file_size_lem
