-- What the inventory sheet of a result says (document 02, request 10): the planned columns, one line each, in order, from the recording.
-- The statement; Theorem has the proof.
use Rattle.std.specs.Prelude.{ℕ, List, [], ◌≡◌, length, get_or}
use Rattle.std.proofs.Math.Option.{some}
use Rattle.base.specs.Choice.{pick}
use Rattle.base.specs.Blit.{part}
use Rattle.mdf.specs.Block.{links_at, link_at}
use Rattle.plan.specs.Channel.{channel_bytes}
use Rattle.plan.specs.Columns.{Column}
use Rattle.result.specs.Guarantee.{column_at}
use Rattle.file.specs.Form.{FileColumn}
use Rattle.sheet.specs.Sheet.{ascii, left_in, right_in, name_of, master_in, page_count, pages, pages_text, sheet}
use Rattle.sheet.specs.SheetLaws.{bodies}

-- the line l of column number k, planned as c of the recording s: "t" for a time column, its channel's name where that text has no links, which a copy
-- would have led elsewhere; its channel's bytes; as many records as its group has; the number of the column planned as its master
pub record LineDue (s : List ℕ) (k : ℕ) (c : Column) (l : List ℕ) : Type 0 where
  pub long : length l ≡ 80
  pub number : part 0 8 l ≡ right_in 8 k
  pub kind : part 9 1 l ≡ left_in 1 (pick c.is_time_lem (ascii "t") (ascii "s"))
  pub name : links_at s (link_at s c.channel 2) ≡ 0 → part 11 32 l ≡ left_in 32 (name_of s c.channel)
  pub bytes : part 44 12 l ≡ right_in 12 (channel_bytes s c.channel)
  pub records : part 57 12 l ≡ right_in 12 c.group.records
  pub master : part 70 10 l ≡ master_in c.master

-- of the final bytes f of a call with image s for which the columns cs were planned
pub record SheetDue (s : List ℕ) (cs : List Column) (f : List ℕ) : Type 0 where
  -- the sheet is pages, no refusal: as many as so many columns have
  pub columns : List FileColumn
  pub printed : sheet f ≡ pages_text (pages f columns)
  pub paged : length (pages f columns) ≡ page_count (length cs)
  -- below their headings stand as many lines as columns were planned, line k that of column k
  pub as_many : length (bodies (pages f columns)) ≡ length cs
  pub lines : (k : ℕ) (c : Column) → column_at k cs ≡ some c → LineDue s k c (get_or (bodies (pages f columns)) k [])
