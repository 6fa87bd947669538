-- A column's DG, CG, CN and DL over the numbers that its words give.
use Rattle.std.specs.Prelude.{◌≡◌, ℕ, zero, suc, ◌+◌, ◌*◌, ◌<◌, ◌≤◌, Bool, false, List, [], ◌∷◌, ◌++◌, length, slice_index}
use Rattle.base.specs.Choice.{pick, if_lt, if_eq}
use Rattle.mdf.specs.Block.{link_at, data_at}
use Rattle.plan.specs.Rules.{Rules}
use Rattle.plan.specs.Channel.{channel_type, channel_bytes, keeps_inval, width}
use Rattle.plan.specs.Photos.{links_from, photos_of}
use Rattle.plan.specs.Copies.{Copy, Attachment}
use Rattle.work_words.specs.CopyWords.{placed_at}
use Rattle.plan.specs.Geometry.{block_count, block_payload}
use Rattle.plan.specs.Layout.{cg_size, dl_size}
use Rattle.result.specs.Fill.{Block, block, words, new_link, stored_type, sd_link, photo_links, structure_blocks}
use Rattle.result.specs.Ordered.{Ordered}
use Rattle.copies_laws.specs.LengthLaws.{InImage}
use Rattle.filling.specs.Blocks.{dg_from, cg_from, cn_front, cn_data_from, dl_from}
use Rattle.filling.specs.FillLaws.{has_master}
use Rattle.copier.specs.Standing.{copies_in}
use Rattle.writing.specs.declared.placed.PlacedColumn.{PlacedColumn}
use Rattle.writing.specs.PlacedIn.{master_in, signal_in, column_in, placed_in}

-- ---- a placed column's numbers

-- the CG of the master's column, of n columns
unfoldable pub master_place : List ℕ → ℕ → ℕ → ℕ
master_place memo n zero = 0
master_place memo n (suc m) = if_lt m n (slice_index memo (placed_at + 3 * m) + 64) 0

-- the next column's DG, 0 for the last
unfoldable pub next_place : List ℕ → ℕ → ℕ → ℕ
next_place memo n k = if_lt (k + 1) n (slice_index memo (placed_at + 3 * (k + 1))) 0

-- column number k of n
unfoldable pub column_of : Bool → List ℕ → List ℕ → ℕ → List ℕ → List ℕ → ℕ → ℕ → PlacedColumn
column_of ph table s size columns memo n k = record {
  channel = slice_index columns (8 * k);
  stored = stored_type table (channel_type s (slice_index columns (8 * k)));
  group = slice_index columns (8 * k + 1);
  parent = slice_index columns (8 * k + 2);
  records = slice_index columns (8 * k + 3);
  remote = has_master (master_in (slice_index columns (8 * k + 5)));
  master = master_place memo n (slice_index columns (8 * k + 5));
  dg = slice_index memo (placed_at + 3 * k);
  cn = slice_index memo (placed_at + 3 * k) + 64 + cg_size (master_in (slice_index columns (8 * k + 5)));
  first = slice_index memo (placed_at + 3 * k + 1);
  sd = sd_link (signal_in (slice_index columns (8 * k + 6))) (slice_index memo (placed_at + 3 * k + 2));
  blocks = block_count size (width s (slice_index columns (8 * k + 1)) (slice_index columns (8 * k))) (slice_index columns (8 * k + 3));
  photos = length (photos_of ph s (slice_index columns (8 * k)));
  payload = block_payload size (width s (slice_index columns (8 * k + 1)) (slice_index columns (8 * k))) (slice_index columns (8 * k + 3));
}

-- the words hold the places of n columns, all near
pub record Near (memo : List ℕ) (n : ℕ) : Type 0 where
  pub few : n ≤ 512
  pub long : 8192 ≤ length memo
  pub below : (m : ℕ) → m < n → slice_index memo (placed_at + 3 * m) < 9223372036854775808

-- a column's places are near, and its references few
pub record Bounded (h : PlacedColumn) : Type 0 where
  pub dg : h.dg < 9223372036854775808
  pub after : h.dg ≤ h.cn
  pub cn : h.cn ≤ h.dg + 176
  pub photos : h.photos ≤ 65535

-- ---- its blocks

-- the bytes of its CN
abbrev pub cn_length : PlacedColumn → ℕ
cn_length h = 160 + 8 * h.photos

module _ (s : List ℕ) (memo : List Copy) (h : PlacedColumn) where
  unfoldable pub column_dg : ℕ → List ℕ
  column_dg next = dg_from next (h.dg + 64) (if_eq h.blocks 0 0 (h.cn + cn_length h)) (new_link memo (link_at s h.parent 3))

  unfoldable pub column_cg : List ℕ
  column_cg =
      cg_from s h.group h.cn (new_link memo (link_at s h.group 2)) (new_link memo (link_at s h.group 3)) (new_link memo (link_at s h.group 5))
      h.remote h.master h.records (channel_bytes s h.channel) (keeps_inval s h.group h.channel)

  -- of its CN up to the eighth link
  unfoldable pub column_front : List ℕ
  column_front =
      cn_front (cn_length h) (8 + h.photos) (new_link memo (link_at s h.channel 2)) (new_link memo (link_at s h.channel 3))
      (new_link memo (link_at s h.channel 4)) h.sd (new_link memo (link_at s h.channel 6)) (new_link memo (link_at s h.channel 7))

-- its references, led to the moved attachments
abbrev pub column_photos : List ℕ → List Attachment → PlacedColumn → List ℕ
column_photos s ats h = words (photo_links ats (links_from s h.photos (h.channel + 88)))

-- its data
abbrev pub column_data : List ℕ → PlacedColumn → List ℕ
column_data s h = cn_data_from s h.channel h.stored (keeps_inval s h.group h.channel) h.photos

unfoldable pub column_cn : List ℕ → List Copy → List Attachment → PlacedColumn → List ℕ
column_cn s memo ats h = column_front s memo h ++ column_photos s ats h ++ column_data s h

unfoldable pub column_dl : PlacedColumn → List ℕ
column_dl h = dl_from h.payload h.blocks h.first

-- no DL without blocks
unfoldable pub column_d_ls : PlacedColumn → List Block
column_d_ls h = if_eq h.blocks 0 [] (block (h.cn + cn_length h) (column_dl h) ∷ [])

unfoldable pub column_parts : List ℕ → List Copy → List Attachment → PlacedColumn → ℕ → List Block
column_parts s memo ats h next =
    block h.dg (column_dg s memo h next) ∷ block (h.dg + 64) (column_cg s memo h) ∷ block h.cn (column_cn s memo ats h) ∷ column_d_ls h

-- a column's blocks have room from a to e, and its CG and CN lie in the image
abbrev pub cg_length : Bool → ℕ
cg_length remote = pick remote 112 104

pub record Room (s : List ℕ) (h : PlacedColumn) (a e : ℕ) : Type 0 where
  pub begins : a ≤ h.dg
  pub cn : h.cn ≡ h.dg + 64 + cg_length h.remote
  pub ends : h.cn + cn_length h + dl_size h.blocks ≤ e
  pub group : data_at s h.group + 32 ≤ length s
  pub channel : data_at s h.channel + 72 ≤ length s

-- ---- all columns

-- what their blocks take of the choices
abbrev pub on_table : List ℕ → Rules
on_table table = record { unit = 8; table = table; share = false; photos = false }

pub record StructureReady (ph : Bool) (rs : Rules) (s : List ℕ) (size : ℕ) (columns memo : List ℕ) (ats : List Attachment) (n used a e : ℕ) : Type 0 where
  pub few : n ≤ 512
  pub long : 4096 ≤ length columns
  pub placed : 8192 ≤ length memo
  pub ordered : Ordered a (structure_blocks rs s size (copies_in memo used) ats (placed_in ph s columns memo 0 n) (placed_in ph s columns memo 0 n)) e
  pub seen : (k : ℕ) → k < n → InImage s (column_in ph s columns (8 * k))
