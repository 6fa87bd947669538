-- A kept column in the new file, and what is to be known of it and of its blocks (document 02, request 13).
use Rattle.std.specs.Prelude.{ℕ, ◌+◌, ◌*◌, ◌^◌, ◌≤◌, ◌<◌, List, [], ◌∷◌, true, ◌≡◌, length, get_or}
use Rattle.std.proofs.Math.Option.{some}
use Rattle.base.specs.Checked.{fine}
use Rattle.mdf.specs.Block.{size_at, links_at, link_at}
use Rattle.mdf.specs.Chain.{Fragment}
use Rattle.mdf.specs.Group.{group_flags}
use Rattle.mdf.specs.Records.{ranges_in, size_of}
use Rattle.mdf.specs.Walk.{id_size}
use Rattle.plan.specs.Channel.{bit}
use Rattle.plan.specs.Copies.{Copy, Attachment}
use Rattle.plan.specs.Layout.{Placed, cg_of, cn_of, dl_of}
use Rattle.plan.specs.Photos.{references}
use Rattle.result.specs.Fill.{Block, cg_at, sd_blocks}
use Rattle.result.specs.Guarantee.{Stands, In}
use Rattle.file.specs.Form.{FileColumn, cycles, record_bytes, equal_length, have_length, one_kind}
use Rattle.sheet.specs.Sheet.{number_at}
use Rattle.thin.specs.Kept.{signal_place, signal_kept}
use Rattle.thin.specs.Place.{blocks_of}
use Rattle.thin.specs.Fill.{kept_dg, kept_cg, kept_cn, kept_lists, moved_blocks}

-- "data block kinds and lengths .. stay": the data blocks where they are now, from a on, 24 + payload apart
unfoldable pub moved_fragments : ℕ → List Fragment → List Fragment
moved_fragments a [] = []
moved_fragments a (f ∷ fs) = record { offset = a + 24; size = f.size; kind = f.kind } ∷ moved_fragments (a + (24 + f.size)) fs

-- the column in the new file
abbrev pub new_column : Placed → FileColumn
new_column p =
    record { dg = p.dg; cg = cg_of p; cn = cn_of p; fragments = moved_fragments p.first p.column.group.data_group.fragments }

-- and in the file that it was in
abbrev pub old_column : Placed → FileColumn
old_column p =
    record {
      dg = p.column.group.data_group.at;
      cg = p.column.group.at;
      cn = p.column.channel;
      fragments = p.column.group.data_group.fragments;
    }

-- what is to be known of a kept column of the file s, and of its places
pub record KeptSound (s : List ℕ) (p : Placed) : Type 0 where
  -- the file is of bytes; CG and CN have 32 and 72 bytes of data
  pub image : (i : ℕ) → get_or s i 0 < 256
  pub group_room : 24 + 8 * links_at s p.column.group.at + 32 ≤ size_at s p.column.group.at
  pub channel_room : 24 + 8 * links_at s p.column.channel + 72 ≤ size_at s p.column.channel
  -- it has the form
  pub ids : id_size s p.column.group.data_group.at ≡ 0
  pub ranges : ranges_in s p.column.group.data_group.fragments ≡ fine
  pub lengths : have_length (equal_length s (link_at s p.column.group.data_group.at 2)) p.column.group.data_group.fragments ≡ true
  pub kinds : one_kind s p.column.group.at p.column.group.data_group.fragments ≡ true
  pub bytes : size_of p.column.group.data_group.fragments ≡ cycles s p.column.group.at * record_bytes s p.column.group.at
  -- its signal data are its channel's SD, which lies in the file; its references are its channel's
  pub signal : p.column.signal_of ≡ signal_kept s p.column.channel
  pub signal_whole : (signal_place s p.column.channel ≡ 0 → ⊥) → 24 ≤ size_at s (signal_place s p.column.channel)
  pub signal_range : (signal_place s p.column.channel ≡ 0 → ⊥)
      → signal_place s p.column.channel + size_at s (signal_place s p.column.channel) ≤ length s
  pub photos : p.column.photos ≡ references s p.column.channel
  -- addresses: not 0, and all below 2 ^ 64
  pub dg_above : 0 < p.dg
  pub structure_ends : dl_of p < 256 ^ 8
  pub first_above : 0 < p.first
  pub payload_ends : p.first + 24 * blocks_of p.column + size_of p.column.group.data_group.fragments < 256 ^ 8
  pub sd_above : 0 < p.sd
  pub sd_ends : (signal_place s p.column.channel ≡ 0 → ⊥) → p.sd + size_at s (signal_place s p.column.channel) < 256 ^ 8

-- its blocks stand in the new file f; memo is the table of copies, ats are the attachments, all is the list that master numbers count, next is the DG
-- after its own
pub record KeptStands (s f : List ℕ) (memo : List Copy) (ats : List Attachment) (all : List Placed) (p : Placed) (next : ℕ) : Type 0 where
  pub dg : Stands f p.dg (kept_dg s memo p next)
  pub cg : Stands f (cg_of p) (kept_cg s memo all p)
  pub cn : Stands f (cn_of p) (kept_cn s memo ats p)
  pub list : (b : Block) → In b (kept_lists s p) → Stands f b.at b.bytes
  pub blocks : (b : Block) → In b (moved_blocks s p.first p.column.group.data_group.fragments) → Stands f b.at b.bytes
  pub signal : (b : Block) → In b (sd_blocks s p.column.signal_of p.sd) → Stands f b.at b.bytes

-- of a master, column number m of the new file, whose columns are news, that the CG at g of s names: its flag bit 3 is set, and the CG at the place of
-- column m is that column's
pub record MasterPlaced (s : List ℕ) (all : List Placed) (news : List FileColumn) (g m : ℕ) : Type 0 where
  pub flagged : bit 3 (group_flags s g) ≡ 1
  pub above : 0 < cg_at m all
  pub below : cg_at m all < 256 ^ 8
  pub numbered : number_at (cg_at m all) 0 news ≡ some m
