-- Fill's DG, CG, CN and DL are those over numbers, at a placed column's numbers.
use Rattle.std.specs.Prelude.{◌≡◌, ℕ, ◌+◌, Bool, true, false, List, ◌++◌, length}
use Rattle.std.proofs.Common.{append_assoc}
use Rattle.std.proofs.Math.Option.{Option, none, some}
use Rattle.std.proofs.Math.Path.{refl}
use Rattle.base.specs.Choice.{if_eq}
use Rattle.base.specs.Field.{le}
use Rattle.base.specs.Blit.{part}
use Rattle.mdf.specs.Block.{kind_cg, link_at, data_at}
use Rattle.mdf.specs.Group.{group_flags}
use Rattle.plan.specs.Rules.{Rules}
use Rattle.plan.specs.Channel.{channel_type, channel_bytes, keeps_inval}
use Rattle.plan.specs.Copies.{Copy, Attachment}
use Rattle.plan.specs.Layout.{column_blocks, cg_links, cg_size, cn_size, Placed, cg_of, cn_of, dl_of}
use Rattle.result.specs.Fill.{header, words, new_link, dg_bytes, cg_flags, cg_at, master_link, cg_data, cg_bytes, sd_link, stored_type, cn_data, photo_links, cn_bytes, column_payload, dl_bytes, one}
use Rattle.filling.specs.Blocks.{dg_from, cg_header, cg_front, cg_counts, cg_data_from, cg_from, cn_links, cn_front, cn_types, cn_rest, cn_data_from, dl_from}

-- whether a column has a master, and its CG
abbrev pub has_master : Option ℕ → Bool
has_master none = false
has_master (some m) = true

abbrev pub master_cg : List Placed → Option ℕ → ℕ
master_cg ps none = 0
master_cg ps (some m) = cg_at m ps

module _ (s : List ℕ) (size : ℕ) (memo : List Copy) (p : Placed) where
  pub dg-from : (next : ℕ) → dg_bytes s size memo p next
      ≡ dg_from next (cg_of p) (if_eq (column_blocks s size p.column) 0 0 (dl_of p)) (new_link memo (link_at s p.column.group.data_group.at 3))
  unfolding dg_bytes dg_from
  dg-from next = refl

  pub dl-from : dl_bytes s size p ≡ dl_from (column_payload s size p.column) (column_blocks s size p.column) p.first
  unfolding dl_bytes dl_from
  dl-from = refl

-- its CN, at the type that is stored: up to the eighth link, the references, the data
pub cn-from : (o : Rules) (s : List ℕ) (memo : List Copy) (ats : List Attachment) (p : Placed) (stored : ℕ)
    → stored ≡ stored_type o.table (channel_type s p.column.channel)
    → cn_bytes o s memo ats p
    ≡ cn_front (cn_size p.column) (8 + length p.column.photos) (new_link memo (link_at s p.column.channel 2))
    (new_link memo (link_at s p.column.channel 3)) (new_link memo (link_at s p.column.channel 4)) (sd_link p.column.signal_of p.sd)
    (new_link memo (link_at s p.column.channel 6)) (new_link memo (link_at s p.column.channel 7))
    ++ words (photo_links ats p.column.photos)
    ++ cn_data_from s p.column.channel stored (keeps_inval s p.column.group.at p.column.channel) (length p.column.photos)
unfolding cn_bytes cn_data cn_front cn_links cn_types cn_rest cn_data_from
cn-from o s memo ats p stored e = rw e (simp append_assoc)

-- with the master's number taken apart
cg-made : (s : List ℕ) (ps : List Placed) (g cn name source comment records bytes : ℕ) (inval : Bool) (m : Option ℕ)
    → header kind_cg (cg_size m) (cg_links m) ++ le 8 0 ++ le 8 cn ++ le 8 name ++ le 8 source ++ le 8 0 ++ le 8 comment ++ master_link ps m
    ++ (le 8 0 ++ le 8 records ++ le 2 (cg_flags (group_flags s g) m) ++ part (data_at s g + 18) 2 s ++ le 4 0 ++ le 4 bytes ++ le 4 (one inval))
    ≡ cg_from s g cn name source comment (has_master m) (master_cg ps m) records bytes inval
unfolding cg_from cg_header cg_front cg_data_from cg_counts
cg-made s ps g cn name source comment records bytes inval none = simp append_assoc
cg-made s ps g cn name source comment records bytes inval (some m) = simp append_assoc

pub cg-from : (s : List ℕ) (memo : List Copy) (ps : List Placed) (p : Placed) → cg_bytes s memo ps p
    ≡ cg_from s p.column.group.at (cn_of p) (new_link memo (link_at s p.column.group.at 2)) (new_link memo (link_at s p.column.group.at 3))
    (new_link memo (link_at s p.column.group.at 5)) (has_master p.column.master) (master_cg ps p.column.master) p.column.group.records
    (channel_bytes s p.column.channel) (keeps_inval s p.column.group.at p.column.channel)
unfolding cg_bytes cg_data
cg-from s memo ps p = cg-made s ps _ _ _ _ _ _ _ _ p.column.master
