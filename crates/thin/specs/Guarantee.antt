-- What holds of every file that taking columns out makes (document 02, request 13): of its final bytes, by links alone, from the file it was made of.
use Rattle.std.specs.Prelude.{ℕ, suc, ◌+◌, ◌*◌, ◌-◌, ◌%◌, ◌<◌, List, [], ◌∷◌, true, false, ◌≡◌, length, get_or}
use Rattle.base.specs.Choice.{if_lt}
use Rattle.base.specs.Blit.{part}
use Rattle.base.specs.Checked.{ok}
use Rattle.mdf.specs.Block.{kind_hd, kind_dg, kind_cg, kind_cn, kind_sd, size_at, links_at, link_at, data_at}
use Rattle.mdf.specs.Chain.{Kind, Fragment, is_in}
use Rattle.mdf.specs.Records.{joined}
use Rattle.plan.specs.Columns.{no_signal}
use Rattle.plan.specs.Copies.{is_copied}
use Rattle.plan.specs.Photos.{photo_count}
use Rattle.plan.specs.Layout.{Placed, Layout}
use Rattle.result.specs.Recording.{Followed, is_at, attached_from}
use Rattle.result.specs.Fill.{Block}
use Rattle.result.specs.Ordered.{Close}
use Rattle.result.specs.Links.{head_at, list_shown}
use Rattle.result.specs.Due.{list_due, has_master}
use Rattle.result.specs.Names.{LinkDue, HistoryDue, AttachmentsDue, PhotosDue}
use Rattle.result.specs.Guarantee.{Stands, AllApart, In}
use Rattle.file.specs.Form.{FileColumn, equal_length}
use Rattle.file.specs.Opened.{opened}
use Rattle.sheet.specs.Sheet.{master_of}
use Rattle.thin.specs.Kept.{signal_place, new_master}
use Rattle.thin.specs.Place.{blocks_of}
use Rattle.thin.specs.Fill.{blocks_kept}

-- ---- a column: "payloads, masters, signal data, photo references .. and reachable metadata kept"

-- byte number i of the data of the block at a, 0 past the block's end
unfoldable pub data_byte : List ℕ → ℕ → ℕ → ℕ
data_byte s a i = if_lt (24 + 8 * links_at s a + i) (size_at s a) (get_or s (data_at s a + i) 0) 0

-- "the data of HD, DG, CG and CN .. stay": n bytes of the block at a of s and of the block at b of f
pub record SameData (n : ℕ) (s f : List ℕ) (a b : ℕ) : Type 0 where
  pub each : (i : ℕ) → i < n → get_or f (data_at f b + i) 0 ≡ data_byte s a i

-- "data block kinds and lengths .. stay"
unfoldable pub lengths_of : List Fragment → List ℕ
lengths_of [] = []
lengths_of (f ∷ fs) = f.size ∷ lengths_of fs

unfoldable pub kinds_of : List Fragment → List Kind
kinds_of [] = []
kinds_of (f ∷ fs) = f.kind ∷ kinds_of fs

-- the SD at a of s and the SD at b of f; none stays none
pub record SignalKept (s f : List ℕ) (a b : ℕ) : Type 0 where
  pub none_stays : a ≡ 0 → b ≡ 0
  pub nonzero : (a ≡ 0 → ⊥) → b ≡ 0 → ⊥
  pub head : (a ≡ 0 → ⊥) → head_at f b ≡ record { kind = kind_sd; size = size_at s a; links = 0 }
  pub bytes : (a ≡ 0 → ⊥) → part (b + 24) (size_at s a - 24) f ≡ part (a + 24) (size_at s a - 24) s

-- names, units, conversions, sources and comments of column c of s are those of column d of f, looked at so deep; past is the history chain
pub record NamesKept (k : ℕ) (s f past : List ℕ) (c d : FileColumn) : Type 0 where
  pub group_name : LinkDue k s f past (link_at s c.cg 2) (link_at f d.cg 2)
  pub group_source : LinkDue k s f past (link_at s c.cg 3) (link_at f d.cg 3)
  pub group_comment : LinkDue k s f past (link_at s c.cg 5) (link_at f d.cg 5)
  pub name : LinkDue k s f past (link_at s c.cn 2) (link_at f d.cn 2)
  pub source : LinkDue k s f past (link_at s c.cn 3) (link_at f d.cn 3)
  pub conversion : LinkDue k s f past (link_at s c.cn 4) (link_at f d.cn 4)
  pub unit : LinkDue k s f past (link_at s c.cn 6) (link_at f d.cn 6)
  pub comment : LinkDue k s f past (link_at s c.cn 7) (link_at f d.cn 7)
  pub data_comment : LinkDue k s f past (link_at s c.dg 3) (link_at f d.dg 3)

-- column d of the new file f, whose columns are news, is column c of the file s, whose columns are all; past is the history chain, ats are the
-- attachments of s
pub record ColumnKept (s f numbers past ats : List ℕ) (all news : List FileColumn) (c d : FileColumn) : Type 0 where
  -- 01's blocks: DG 64, CG 104 (112 with a master), CN 160 and its references
  pub dg_head : head_at f d.dg ≡ record { kind = kind_dg; size = 64; links = 4 }
  pub cg_head : head_at f d.cg
      ≡ record { kind = kind_cg; size = 104 + 8 * has_master (master_of s all c.cg); links = 6 + has_master (master_of s all c.cg) }
  pub cn_head : head_at f d.cn ≡ record { kind = kind_cn; size = 160 + 8 * photo_count s c.cn; links = 8 + photo_count s c.cn }
  pub dg_data : SameData 8 s f c.dg d.dg
  pub cg_data : SameData 32 s f c.cg d.cg
  pub cn_data : SameData 72 s f c.cn d.cn
  pub reductions : link_at f d.cg 4 ≡ 0
  pub composition : link_at f d.cn 1 ≡ 0
  -- its blocks, with the DL's length as it was, and their bytes; the number in a DL has 32 bits
  pub list : length c.fragments < 4294967296
      → list_shown f (link_at f d.dg 2) ≡ list_due (length c.fragments) (equal_length s (link_at s c.dg 2))
  pub lengths : lengths_of d.fragments ≡ lengths_of c.fragments
  pub kinds : kinds_of d.fragments ≡ kinds_of c.fragments
  pub payload : joined f d.fragments ≡ joined s c.fragments
  pub signal : SignalKept s f (signal_place s c.cn) (link_at f d.cn 5)
  -- its master is the same column
  pub master : master_of f news d.cg ≡ new_master numbers (master_of s all c.cg)
  pub names : (k : ℕ) → NamesKept k s f past c d
  pub photos : PhotosDue s f ats c.cn d.cn

-- "the others in order": the columns cs of s from number k on, and those of the new file
pub data ColumnsKept (s f numbers past ats : List ℕ) (all news : List FileColumn) : ℕ → List FileColumn → List FileColumn → Type 0 where
  done : {k : ℕ} → ColumnsKept s f numbers past ats all news k [] []
  out : {k : ℕ} {c : FileColumn} {cs ds : List FileColumn} → is_in k numbers ≡ true
      → ColumnsKept s f numbers past ats all news (suc k) cs ds → ColumnsKept s f numbers past ats all news k (c ∷ cs) ds
  kept : {k : ℕ} {c d : FileColumn} {cs ds : List FileColumn} → is_in k numbers ≡ false → ColumnKept s f numbers past ats all news c d
      → ColumnsKept s f numbers past ats all news (suc k) cs ds → ColumnsKept s f numbers past ats all news k (c ∷ cs) (d ∷ ds)

-- "each column's first data block and each SD block starts on the next multiple of" the unit u (document 02, request 5)
pub record StartsOn (u : ℕ) (p : Placed) : Type 0 where
  pub blocks : (blocks_of p.column ≡ 0 → ⊥) → p.first % u ≡ 0
  pub signal : (p.column.signal_of ≡ no_signal → ⊥) → p.sd % u ≡ 0

-- ---- the file: f made of s, whose columns are all, by taking those with these numbers out; l is where blocks were placed
pub record TakenOut (u : ℕ) (s numbers : List ℕ) (all : List FileColumn) (l : Layout) (f : List ℕ) : Type 0 where
  -- "the first 64 bytes, the data of HD .. stay"; neither channel hierarchy nor events
  pub ident : part 0 64 f ≡ part 0 64 s
  pub head : head_at f 64 ≡ record { kind = kind_hd; size = 104; links = 6 }
  pub header_data : SameData 32 s f 64 64
  pub hierarchy : link_at f 64 2 ≡ 0
  pub events : link_at f 64 4 ≡ 0
  -- it has the reader's form, and its columns are the others, in order
  pub news : List FileColumn
  pub opens : opened f ≡ ok news
  pub columns : ColumnsKept s f numbers l.past.chain (attached_from l.attached.attachments) all news 0 all news
  -- "history stay, with no new entry", the HD comment, "attachments .. kept"
  pub comment : (k : ℕ) → LinkDue k s f l.past.chain (link_at s 64 5) (link_at f 64 5)
  pub history : HistoryDue s f l.past.chain 0 l.past.chain (link_at f 64 1)
  pub history_ends : Followed s is_copied (link_at s 64 1) l.past.chain
  pub attachments : AttachmentsDue s f l.past.chain (attached_from l.attached.attachments) (link_at f 64 3)
  pub attachments_end : Followed s is_at (link_at s 64 3) (attached_from l.attached.attachments)
  -- every block is written as placed, no two share a byte, data blocks and SD start on the unit; "Between two neighbouring written blocks lie fewer
  -- than the unit's bytes"
  pub filled : (b : Block) → In b (blocks_kept s l) → Stands f b.at b.bytes
  pub apart : AllApart (blocks_kept s l)
  pub starts : (p : Placed) → In p l.placed → StartsOn u p
  pub close : Close u 0 (blocks_kept s l) l.file_size_lem
