-- The result: its blocks in the order of their addresses, zeros between them; the report; the answer in document 01's order.
use Rattle.std.specs.Prelude.{ℕ, ◌+◌, ◌-◌, List, [], ◌∷◌, ◌++◌, Bool, length, drop, replicate}
use Rattle.base.specs.Choice.{pick, if_lt, if_eq}
use Rattle.base.specs.Field.{le_at}
use Rattle.base.specs.Blit.{blit}
use Rattle.base.specs.Checked.{Checked, ok, refused, and_then, Verdict, fine}
use Rattle.mdf.specs.Block.{link_at}
use Rattle.mdf.specs.Identification.{file_mark, identified}
use Rattle.mdf.specs.Walk.{walk}
use Rattle.mdf.specs.Group.{data_groups, is_storage}
use Rattle.mdf.specs.Count.{counts}
use Rattle.plan.specs.Photos.{photos_first}
use Rattle.plan.specs.Columns.{SrcGroup, src_groups, Column, Signal, no_signal, signal_data, Plan, plan, omission_words}
use Rattle.plan.specs.Data.{all_data_in, blocks_in}
use Rattle.plan.specs.Copies.{Copy}
use Rattle.plan.specs.Rules.{Rules, choices_in}
use Rattle.plan.specs.Layout.{Layout, layout, column_blocks}
use Rattle.result.specs.Sharing.{sharing}
use Rattle.result.specs.Fill.{Block, block, new_link, copied_blocks, md_bytes, fh_bytes, next_dg, structure_blocks, data_blocks, next_attachment, attachment_blocks, hd_bytes}

-- bookkeeping: what a call is given besides output, list and work words
pub record Args : Type 0 where
  pub image : List ℕ
  pub block_size : ℕ
  pub ident : List ℕ
  pub text : List ℕ
  pub time : ℕ
  -- document 02's choices
  pub unit : ℕ
  pub table : List ℕ
  pub share : Bool
  pub photos : Bool

-- bookkeeping: what is chosen, as the definitions use it
abbrev pub rules_of : Args → Rules
rules_of x = record { unit = x.unit; table = x.table; share = x.share; photos = x.photos }

-- ---- the file

-- the first block of the history: the copy of the chain's first, or the new FH
abbrev pub first_fh : List Copy → List ℕ → ℕ → ℕ
first_fh memo [] fh = fh
first_fh memo (a ∷ l) fh = new_link memo a

-- bookkeeping: all blocks copied
abbrev pub memo_of : Layout → List Copy
memo_of l = l.attached.made.memo

-- HD, with the first DG, history entry and attachment and the comment's copy
unfoldable pub hd_block : List ℕ → Layout → Block
hd_block s l =
    block 64 (hd_bytes s (next_dg l.placed) (first_fh (memo_of l) l.past.chain l.fh) (next_attachment l.attached.attachments)
    (new_link (memo_of l) (link_at s 64 5)))

-- "From 168, each block ..": every block, in the order of addresses
unfoldable pub blocks_of : Args → Layout → List Block
blocks_of x l =
    block 0 x.ident ∷ hd_block x.image l
    ∷ (copied_blocks x.image l.past.chain (memo_of l) l.fh l.past.made.memo
    ++ (block l.md (md_bytes x.text) ∷ block l.fh (fh_bytes l.md x.time)
    ∷ (copied_blocks x.image l.past.chain (memo_of l) l.fh (drop (length l.past.made.memo) l.metadata.memo)
    ++ (structure_blocks (rules_of x) x.image x.block_size (memo_of l) l.attached.attachments l.placed l.placed
    ++ (data_blocks x.image x.block_size l.placed
    ++ attachment_blocks x.image l.past.chain (memo_of l) l.fh l.attached.attachments)))))

-- "Gaps are zero": the blocks from a on up to e
unfoldable pub flat : ℕ → List Block → ℕ → List ℕ
flat a [] e = replicate (e - a) 0
flat a (b ∷ bs) e = replicate (b.at - a) 0 ++ b.bytes ++ flat (b.at + length b.bytes) bs e

-- "the file's size": the whole file, up to it
unfoldable pub file_of : Args → Layout → List ℕ
file_of x l = flat 0 (blocks_of x l) l.file_size_lem

-- ---- the report: "seven counts of `ColumnReport`: source groups (not VLSD storage), time columns, signal columns, shared time groups",
-- "data blocks (DT and DV, and one for each SD written), the metadata's end, the file's size"
pub record Report : Type 0 where
  pub source_groups_lem : ℕ
  pub time_groups_lem : ℕ
  pub signal_groups_lem : ℕ
  pub shared_time_groups_lem : ℕ
  pub data_blocks : ℕ
  pub metadata_size_lem : ℕ
  pub file_size_lem : ℕ

-- "source groups (not VLSD storage)"
unfoldable pub source_groups_of : List ℕ → List SrcGroup → ℕ
source_groups_of s [] = 0
source_groups_of s (g ∷ gs) = pick (is_storage s g.at) 0 1 + source_groups_of s gs

-- "time columns"
unfoldable pub time_columns : List Column → ℕ
time_columns [] = 0
time_columns (c ∷ cs) = pick c.is_time_lem 1 0 + time_columns cs

-- "one for each SD written"
abbrev pub signal_blocks : Signal → ℕ
signal_blocks no_signal = 0
signal_blocks (signal_data fs) = 1

-- "data blocks (DT and DV, and one for each SD written)"
unfoldable pub blocks_written : List ℕ → ℕ → List Column → ℕ
blocks_written s size [] = 0
blocks_written s size (c ∷ cs) = column_blocks s size c + signal_blocks c.signal_of + blocks_written s size cs

-- "the report's shared count" (document 02, request 8): the groups that another stands for
unfoldable pub shared_groups : List ℕ → ℕ
shared_groups [] = 0
shared_groups (b ∷ bys) = if_eq b 0 0 1 + shared_groups bys

-- ---- what is decided before anything is written: the groups, for each the CG of the one that stands for it, 0 for none; the plan; the layout
pub record Decided : Type 0 where
  pub groups : List SrcGroup
  pub stands : List ℕ
  pub planned : Plan
  pub laid_out : Layout

-- the seven counts
unfoldable pub report : Args → Decided → Report
report x d =
    record {
      source_groups_lem = source_groups_of x.image d.groups;
      time_groups_lem = time_columns d.planned.columns;
      signal_groups_lem = length d.planned.columns - time_columns d.planned.columns;
      shared_time_groups_lem = shared_groups d.stands;
      data_blocks = blocks_written x.image x.block_size d.planned.columns;
      metadata_size_lem = d.laid_out.metadata_end_lem;
      file_size_lem = d.laid_out.file_size_lem;
    }

-- ---- the answer

-- `4.20` and four blanks
abbrev pub version420 : ℕ
version420 = 2314885531088072244

-- "1: .. identification not 64 bytes beginning `MDF`, five blanks, `4.20`, four blanks, or history text over 4,096 bytes"
unfoldable pub lent_in : Args → Verdict
lent_in x =
    if_eq (length x.ident) 64
    (if_eq (le_at 8 x.ident 0) file_mark
    (if_eq (le_at 8 x.ident 8) version420
    (if_lt 4096 (length x.text) (refused 1 0) fine) (refused 1 0)) (refused 1 0)) (refused 1 0)

-- "Order. 1, 2,", document 02's choices, "3; identification (4, 5, 6, 7); HD; DG by DG ..; counts DG by DG ..; planning", which "starts by following the
-- attachments .., before unit texts" where photos are kept, "with the unit texts .., then, DG by DG, the compared groups' data" where times are shared; "DG by DG data ..; block counts (19); metadata; attachments .."
unfoldable pub decided : Args → Checked Decided
decided x =
    and_then (lent_in x) (λ _.
    and_then (if_eq x.block_size 0 (refused 2 0) fine) (λ _.
    and_then (choices_in (rules_of x)) (λ _.
    and_then (if_lt 4294967296 (length x.image) (refused 3 0) fine) (λ _.
    and_then (identified x.image) (λ _.
    and_then (walk x.image) (λ st.
    and_then (counts x.image (data_groups st)) (λ ns.
    and_then (photos_first x.photos x.image) (λ _.
    and_then (sharing x.share x.image (data_groups st) (src_groups (data_groups st) ns)) (λ bys.
    and_then (plan (rules_of x) x.image (length st.fragments) (src_groups (data_groups st) ns) bys) (λ p.
    and_then (all_data_in x.image p.columns (data_groups st)) (λ _.
    and_then (blocks_in x.image x.block_size p.columns) (λ _.
    and_then (layout (rules_of x) x.image x.block_size (length x.text) p.columns) (λ l.
    ok (record { groups = src_groups (data_groups st) ns; stands = bys; planned = p; laid_out = l }))))))))))))))

-- "20, bytes needed: output shorter than the result; 21, words needed: omission list too short", for an output and a list of so many
unfoldable pub answer : Args → ℕ → ℕ → Checked Decided
answer x out list =
    and_then (decided x) (λ d.
    if_lt out d.laid_out.file_size_lem (refused 20 d.laid_out.file_size_lem)
    (if_lt list (length (omission_words d.planned.omissions)) (refused 21 (length (omission_words d.planned.omissions))) (ok d)))

-- bookkeeping: what a call answers, and what it leaves in output, list and work slices
pub record Outcome : Type 0 where
  pub answered : Checked Report
  pub output : List ℕ
  pub list : List ℕ
  pub work : List (List ℕ)

-- "A work slice has at most 8,192 words, its needed length a constant"
abbrev pub work_words : ℕ
work_words = 8192

-- "1: a work slice too short"
unfoldable pub work_in : List (List ℕ) → Verdict
work_in [] = fine
work_in (w ∷ ws) = if_lt (length w) work_words (refused 1 0) (work_in ws)

-- "Work slices are zero": as many words, each 0
unfoldable pub zeros : List (List ℕ) → List (List ℕ)
zeros [] = []
zeros (w ∷ ws) = replicate (length w) 0 ∷ zeros ws

-- "Work slices are zero after every return except refusal 1, which changes nothing": the first verdict is that of the slices lent
abbrev pub work_left : Verdict → List (List ℕ) → List (List ℕ)
work_left (refused number place) work = work
work_left (ok u) work = zeros work

-- "A refusal changes neither output nor list .. On acceptance output bytes past the result, and list words past its end, keep their value."
abbrev pub outcome : Args → List ℕ → List ℕ → List (List ℕ) → Checked Decided → Outcome
outcome x out list work (refused number place) =
    record { answered = refused number place; output = out; list = list; work = work }
outcome x out list work (ok d) =
    record {
      answered = ok (report x d);
      output = blit 0 (file_of x d.laid_out) out;
      list = blit 0 (omission_words d.planned.omissions) list;
      work = work;
    }

-- a whole call: "1: a work slice too short" first, then the answer
unfoldable pub convert : Args → List ℕ → List ℕ → List (List ℕ) → Outcome
convert x out list work =
    outcome x out list (work_left (and_then (work_in work) (λ _. lent_in x)) work) (and_then (work_in work) (λ _. answer x (length out) (length list)))
