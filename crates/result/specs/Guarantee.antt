-- The archive's guarantee (demand 3, in the words of document 01, e): what holds of the final bytes and the final list of every accepted result.
use Rattle.std.specs.Prelude.{ℕ, zero, suc, ◌+◌, ◌*◌, ◌%◌, ◌≤◌, ◌<◌, List, [], ◌∷◌, ◌++◌, Bool, true, false, ◌≡◌, length, get_or}
use Rattle.std.proofs.Math.Option.{Option, none, some}
use Rattle.base.specs.Choice.{if_eq}
use Rattle.base.specs.Blit.{part}
use Rattle.base.specs.Checked.{ok}
use Rattle.mdf.specs.Block.{link_at}
use Rattle.mdf.specs.Group.{DataGroup, is_storage}
use Rattle.mdf.specs.Walk.{Source, walk}
use Rattle.plan.specs.Columns.{SrcGroup, Column, no_signal, Omission, omission_addresses}
use Rattle.plan.specs.Data.{is_nonempty}
use Rattle.plan.specs.Copies.{is_copied}
use Rattle.plan.specs.Layout.{Placed, cn_of, column_blocks}
pub use Rattle.result.specs.Member.{In, here, there}
use Rattle.result.specs.Recording.{Recorded, Met, SharedRecords, Sorted, IsMaster, Uses, Differs, Treats, reason_for, OmissionDue, Among, file_places, signal_channels, SignalDue, signal_size, Followed, is_at, attached_from}
use Rattle.result.specs.Payload.{records_of, signal_bytes}
use Rattle.result.specs.Sharing.{time_key, time_cells, is_equal}
use Rattle.result.specs.Fill.{Block}
use Rattle.result.specs.Result.{Args, rules_of, Decided, blocks_of}
use Rattle.result.specs.Ordered.{Close}
use Rattle.result.specs.Links.{shown}
use Rattle.result.specs.Due.{due_all, FrontDue}
use Rattle.result.specs.Names.{LinkDue, NamesDue, HistoryDue, NewHistory, AttachmentsDue, PhotosDue}

-- ---- blocks

-- bs stands at a in f
pub record Stands (f : List ℕ) (a : ℕ) (bs : List ℕ) : Type 0 where
  pub is : part a (length bs) f ≡ bs

-- no block of the list shares a byte with the block b
unfoldable pub Apart : Block → List Block → Type 0
Apart b bs = (c : Block) → In c bs → b.at + length b.bytes ≤ c.at

-- "no two blocks share a byte": each ends before every later one begins
unfoldable pub AllApart : List Block → Type 0
AllApart [] = Unit {0}
AllApart (b ∷ bs) = Apart b bs × AllApart bs

-- "each column's first data block and each SD block starts on the next multiple of" the unit u (document 02, request 5)
pub record Starts (u : ℕ) (s : List ℕ) (size : ℕ) (p : Placed) : Type 0 where
  pub blocks : (column_blocks s size p.column ≡ 0 → ⊥) → p.first % u ≡ 0
  pub signal : (p.column.signal_of ≡ no_signal → ⊥) → p.sd % u ≡ 0

-- ---- channels

-- how many of the columns are made of channel c
unfoldable pub columns_of : ℕ → List Column → ℕ
columns_of c [] = 0
columns_of c (k ∷ ks) = if_eq k.channel c 1 0 + columns_of c ks

-- how many of the omissions are about address c
unfoldable pub omissions_of : ℕ → List Omission → ℕ
omissions_of c [] = 0
omissions_of c (o ∷ os) = if_eq o.at c 1 0 + omissions_of c os

-- column number k
unfoldable pub column_at : ℕ → List Column → Option Column
column_at k [] = none
column_at zero (c ∷ cs) = some c
column_at (suc k) (c ∷ cs) = column_at k cs

-- the time column d is column k, made of channel m of group t, with n records
pub record IsTime (cs : List Column) (k : ℕ) (t : SrcGroup) (m n : ℕ) (d : Column) : Type 0 where
  pub there : column_at k cs ≡ some d
  pub timed : d.is_time_lem ≡ true
  pub of_group : d.group.at ≡ t.at
  pub of_channel : d.channel ≡ m
  pub as_many : d.group.records ≡ n

-- "The first group in file order .. stands for its equals" (document 02, request 8): by, with the master theirs, is the first of the groups gs whose time
-- column has the key and the bytes of that of group g, made of own
pub record StandsFor (s : List ℕ) (gs : List SrcGroup) (g : SrcGroup) (own : ℕ) (by : SrcGroup) (theirs : ℕ) : Type 0 where
  pub before : List SrcGroup
  pub between : List SrcGroup
  pub after : List SrcGroup
  pub earlier : gs ≡ before ++ (by ∷ (between ++ (g ∷ after)))
  pub first : (h : SrcGroup) → In h before → is_storage s h.at ≡ false → (k : ℕ) → IsMaster s h.at h.channels k → is_equal s g own h k ≡ false
  pub key : time_key s g own ≡ time_key s by theirs
  pub bytes : time_cells s g own ≡ time_cells s by theirs

-- the master own of group g is no column, since another stands for it: "exactly one earlier column with equal bytes and count"
pub record SharedTime (s : List ℕ) (gs : List SrcGroup) (cs : List Column) (g : SrcGroup) (own : ℕ) : Type 0 where
  pub by : SrcGroup
  pub theirs : ℕ
  pub of_group : IsMaster s g.at g.channels own
  pub master : IsMaster s by.at by.channels theirs
  pub equal : StandsFor s gs g own by theirs
  pub number : ℕ
  pub column : Column
  pub is_time_lem : IsTime cs number by theirs g.records column
  pub one : columns_of theirs cs ≡ 1

-- column k is the time column d of the master m of group t, or the one that stands for it, with n records
pub data TimeFor (s : List ℕ) (gs : List SrcGroup) (cs : List Column) (t : SrcGroup) (m n k : ℕ) (d : Column) : Type 0 where
  own : IsTime cs k t m n d → TimeFor s gs cs t m n k d
  another : (h : SharedTime s gs cs t m) → h.number ≡ k → h.column ≡ d → t.records ≡ n → TimeFor s gs cs t m n k d

-- "a master channel ends as a column, an omission, or exactly one earlier column", any other as a column or an omission: channel c of group g
pub data Became (s : List ℕ) (gs : List SrcGroup) (cs : List Column) (os : List Omission) (g : SrcGroup) (c : ℕ) : Type 0 where
  itself : columns_of c cs + omissions_of c os ≡ 1 → Became s gs cs os g c
  another : columns_of c cs + omissions_of c os ≡ 0 → SharedTime s gs cs g c → Became s gs cs os g c

-- a signal column names the time column of the master that its group has or uses, or the one that stands for it, with as many records; without such a
-- master it names none
pub record MasterDue (s : List ℕ) (gs : List SrcGroup) (cs : List Column) (c : Column) : Type 0 where
  pub names : (t : SrcGroup) (m : ℕ) → Uses s gs c.group t m
      → (k : ℕ) × (d : Column) × (c.master ≡ some k) × TimeFor s gs cs t m c.group.records k d
  pub only : (k : ℕ) → c.master ≡ some k → (t : SrcGroup) × (m : ℕ) × Uses s gs c.group t m

-- "a time column names none"
abbrev pub NamesMaster : List ℕ → List SrcGroup → List Column → Column → Bool → Type 0
NamesMaster s gs cs c true = c.master ≡ none
NamesMaster s gs cs c false = MasterDue s gs cs c

-- a time column is its group's master; any other column is of a channel that nothing omits
abbrev pub Kinded : List ℕ → List ℕ → Column → Bool → Type 0
Kinded table s c true = IsMaster s c.group.at c.group.channels c.channel
Kinded table s c false = reason_for table s c.group.at c.channel ≡ 0

-- ---- the list

-- omission number k
unfoldable pub omission_at : ℕ → List Omission → Option Omission
omission_at k [] = none
omission_at zero (o ∷ os) = some o
omission_at (suc k) (o ∷ os) = omission_at k os

-- "the number n, then n addresses, then n reasons, in file order" at the front of the list
pub record Listed (l : List ℕ) (os : List Omission) : Type 0 where
  pub room : 1 + 2 * length os ≤ length l
  pub number : get_or l 0 0 ≡ length os
  pub each : (k : ℕ) (o : Omission) → omission_at k os ≡ some o → (get_or l (suc k) 0 ≡ o.at) × (get_or l (suc (length os + k)) 0 ≡ o.reason)

-- ---- the guarantee, of the final bytes f and the final list l of a call with arguments x, for which d was decided

-- bookkeeping: the columns of what was placed
unfoldable pub columns_placed : List Placed → List Column
columns_placed [] = []
columns_placed (p ∷ ps) = p.column ∷ columns_placed ps

-- "followed from the header by links alone .." and what is due of the recording, a field a sentence
pub record Guaranteed (x : Args) (d : Decided) (f l : List ℕ) : Type 0 where
  -- ---- the result: "followed from the header by links alone, show exactly the planned columns in order, no two blocks share a byte"
  -- the planned columns are those placed, in order
  pub planned : columns_placed d.laid_out.placed ≡ d.planned.columns
  -- followed from the header by links alone, the file shows exactly these, however far one looks; with their fields, payloads, signal data and masters
  pub shows : (k : ℕ) → length d.laid_out.placed ≤ k → shown f k ≡ due_all (rules_of x) x.image x.block_size d.laid_out.placed d.laid_out.placed
  -- the lent identification and HD; HD's comment, and names, units, conversions, sources and comments of every column, however deep one looks
  pub front : FrontDue x f
  pub comment : (k : ℕ) → LinkDue k x.image f d.laid_out.past.chain (link_at x.image 64 5) (link_at f 64 5)
  pub names : (p : Placed) → In p d.laid_out.placed → (k : ℕ) → NamesDue k x.image f d.laid_out.past.chain p
  -- the recording's history is kept, and the lent text and time follow it
  pub history_kept : HistoryDue x.image f d.laid_out.past.chain d.laid_out.fh d.laid_out.past.chain (link_at f 64 1)
  pub history_new : NewHistory x f d.laid_out.fh
  -- the recording's attachments are kept, in order
  pub attachments : AttachmentsDue x.image f d.laid_out.past.chain (attached_from d.laid_out.attached.attachments) (link_at f 64 3)
  -- with that choice every column has its channel's photos (document 02, request 9)
  pub photos : x.photos ≡ true → (p : Placed) → In p d.laid_out.placed
      → PhotosDue x.image f (attached_from d.laid_out.attached.attachments) p.column.channel (cn_of p)
  -- every block is written as planned, and no two share a byte
  pub filled : (b : Block) → In b (blocks_of x d.laid_out) → Stands f b.at b.bytes
  pub apart : AllApart (blocks_of x d.laid_out)
  -- data blocks and SD start on the unit, and fewer than its bytes lie between two blocks
  pub starts : (p : Placed) → In p d.laid_out.placed → Starts x.unit x.image x.block_size p
  pub close : Close x.unit 0 (blocks_of x d.laid_out) d.laid_out.file_size_lem
  -- ---- the recording: "groups in file order", "A group's channels are the CN of its own chain"
  -- its groups, their channels and their fragments are what links list from its header on; they are what the walk met
  pub recording : (ds : List DataGroup) × Recorded x.image ds d.groups
  pub met : (st : Source) → walk x.image ≡ ok st → Met st d.groups
  -- ---- "every channel became one column or one omission"
  -- every channel of every group that is not VLSD storage is one column or one omission, or a master that an equal one stands for, which can't be unless
  -- times are shared; nothing else is a column
  pub once : (g : SrcGroup) → In g d.groups → is_storage x.image g.at ≡ false → (c : ℕ) → In c g.channels
      → Became x.image d.groups d.planned.columns d.planned.omissions g c
  pub unshared : x.share ≡ false → (g : SrcGroup) → In g d.groups → is_storage x.image g.at ≡ false → (c : ℕ) → In c g.channels
      → columns_of c d.planned.columns + omissions_of c d.planned.omissions ≡ 1
  pub source : (c : Column) → In c d.planned.columns
      → In c.group d.groups × (is_storage x.image c.group.at ≡ false) × In c.channel c.group.channels
  -- types are treated as the table's bytes say (document 02, request 6)
  pub treated : Treats x.table
  -- a time column is its group's master, any other column has no reason to be omitted
  pub kinded : (c : Column) → In c d.planned.columns → Kinded x.table x.image c c.is_time_lem
  -- an omission is of a channel for its reason, or of a group's CG with reason 1, which each group has whose remote master has another count
  pub omitted : (o : Omission) → In o d.planned.omissions → OmissionDue x.table x.image d.groups o
  pub differing : (g : SrcGroup) → In g d.groups → is_storage x.image g.at ≡ false → Differs x.image d.groups g
      → In (record { at = g.at; reason = 1 }) d.planned.omissions
  -- signal columns and omissions are each in file order; the lent list has the omissions at its front
  pub columns_in_order : Among (signal_channels d.planned.columns) (file_places d.groups)
  pub omissions_in_order : Among (omission_addresses d.planned.omissions) (file_places d.groups)
  pub listed : Listed l d.planned.omissions
  -- ---- "payloads and signal data equal their source": `shows`, with
  -- the records of a group with a nonempty column are as many as its count
  pub counted : (c : Column) → In c d.planned.columns → is_nonempty x.image c ≡ true
      → length (records_of x.image c.group) ≡ c.group.records
  -- those of a sorted group are all that its DG's data holds
  pub sorted : (c : Column) → In c d.planned.columns → is_nonempty x.image c ≡ true → length c.group.data_group.groups ≡ 1
      → Sorted x.image c.group
  -- those of a group that shares its DG are its own among all that the DG's data holds
  pub shared : (g : SrcGroup) → In g d.groups → 1 < length g.data_group.groups → SharedRecords x.image g
  -- signal data is that of a type 1 channel's SD chain, and lacks no byte
  pub signals : (c : Column) → In c d.planned.columns
      → SignalDue x.table x.image c.channel c.signal_of × (length (signal_bytes x.image c.signal_of) ≡ signal_size c.signal_of)
  -- ---- "masters are named as planned"
  pub masters : (c : Column) → In c d.planned.columns → NamesMaster x.image d.groups d.planned.columns c c.is_time_lem
  -- a column that is named comes before those that name it
  pub named_before : (j k : ℕ) (c : Column) → column_at j d.planned.columns ≡ some c → c.master ≡ some k → k < j
  -- where times are shared, no two time columns are equal (document 02, request 8)
  pub distinct : x.share ≡ true → (c e : Column) → In c d.planned.columns → In e d.planned.columns → c.is_time_lem ≡ true → e.is_time_lem ≡ true
      → (c.channel ≡ e.channel → ⊥) → is_equal x.image c.group c.channel e.group e.channel ≡ false
  -- ---- the chains of history and attachments are followed to their end
  pub history_ends : Followed x.image is_copied (link_at x.image 64 1) d.laid_out.past.chain
  pub attachments_end : Followed x.image is_at (link_at x.image 64 3) (attached_from d.laid_out.attached.attachments)
