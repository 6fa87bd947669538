-- Taking columns out and closing the file up: the answer in the order of document 02, request 13, and a whole call.
use Rattle.std.specs.Prelude.{ℕ, true, List, length}
use Rattle.base.specs.Choice.{if_lt}
use Rattle.base.specs.Blit.{blit}
use Rattle.base.specs.Checked.{Checked, ok, refused, and_then, fine}
use Rattle.mdf.specs.Records.{most64}
use Rattle.plan.specs.Photos.{photos_first}
use Rattle.plan.specs.Rules.{unit_in}
use Rattle.plan.specs.Layout.{Layout}
use Rattle.result.specs.Result.{work_in, work_left}
use Rattle.file.specs.Opened.{opened}
use Rattle.thin.specs.Kept.{columns_sound, numbers_in, masters_kept, kept_columns, photos_kept}
use Rattle.thin.specs.Place.{placed}
use Rattle.thin.specs.Fill.{file_kept}

-- an image has at most 2^47 bytes, all that x86-64 maps; 01's 3 at 4 GiB doesn't apply
abbrev pub most_image : ℕ
most_image = 140737488355328

-- no file has more bytes than this, 2^59
abbrev pub most_file : ℕ
most_file = 576460752303423488

-- "1 and 26 come first"; "A file that lacks the reader's form gives 24 before the list is looked at; so do, column by column, ..";
-- "33 ..", "34 .., tested after 33"; "after 34 come the photo choice's, for kept columns, then 01's copying, attachment" refusals: for the unit u, the
-- file s and the numbers of the columns that are taken out
unfoldable pub arranged : ℕ → List ℕ → List ℕ → Checked Layout
arranged u s numbers =
    and_then (unit_in u) (λ _.
    and_then (if_lt most_image (length s) (refused 3 0) fine) (λ _.
    and_then (opened s) (λ all.
    and_then (columns_sound s all all) (λ _.
    and_then (numbers_in (length all) numbers) (λ _.
    and_then (masters_kept s numbers all 0 all) (λ _.
    and_then (photos_first true s) (λ _.
    and_then (photos_kept s (kept_columns s numbers all)) (λ _.
    placed u s (kept_columns s numbers all)))))))))

-- "and output refusals": 20 with the bytes needed, 2^64 - 1 where they are over 2^59, for an output of so many
unfoldable pub answer : ℕ → List ℕ → List ℕ → ℕ → Checked Layout
answer u s numbers out =
    and_then (arranged u s numbers) (λ l.
    if_lt most_file l.file_size_lem (refused 20 most64)
    (if_lt out l.file_size_lem (refused 20 l.file_size_lem) (ok l)))

-- bookkeeping: what a call answers, the bytes of the new file or a refusal, and what it leaves in output and work slices
pub record Outcome : Type 0 where
  pub answered : Checked ℕ
  pub output : List ℕ
  pub work : List (List ℕ)

-- "A refusal changes neither output nor list .. On acceptance output bytes past the result .. keep their value." (01)
abbrev pub outcome : List ℕ → List ℕ → List (List ℕ) → Checked Layout → Outcome
outcome s out work (refused number place) = record { answered = refused number place; output = out; work = work }
outcome s out work (ok l) = record { answered = ok l.file_size_lem; output = blit 0 (file_kept s l) out; work = work }

-- a whole call: "1: a work slice too short" first, then the answer; "Work slices are zero after every return except refusal 1"
unfoldable pub take_out : ℕ → List ℕ → List ℕ → List ℕ → List (List ℕ) → Outcome
take_out u s numbers out work =
    outcome s out (work_left (work_in work) work) (and_then (work_in work) (λ _. answer u s numbers (length out)))
