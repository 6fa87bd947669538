-- What a conversion answers: document 01's seven counts, or number and place.
use Rattle.std.specs.Prelude.{◌≡◌, ℕ, List, [], Result, Ok, Err}
use Rattle.base.specs.Checked.{Checked, ok, refused, and_then}
use Rattle.result.specs.Result.{Args, Report, Decided, answer, file_of, Outcome, work_in}
use Rattle.result.specs.Guarantee.{Guaranteed}
use Rattle.guarantee.specs.Theorem.{AllBytes}
use Rattle.plan.specs.Rules.{Rules}
use Rattle.writing.specs.declared.convert.Report as counted
use Rattle.writing.specs.declared.convert.Call.{Call}
use Rattle.fields.specs.declared.refusal.Refusal.{Refusal}
use Rattle.fields.specs.Answer.{number_of, place_of}
use Rattle.choices.specs.Chosen.{rules}

-- a call's arguments
abbrev pub args : List ℕ → ℕ → List ℕ → List ℕ → ℕ → Rules → Args
args image size ident text time chosen = record { image = image; block_size = size; ident = ident; text = text; time = time; unit = chosen.unit; table = chosen.table; share = chosen.share; photos = chosen.photos }

abbrev pub args_of : Call → Args
args_of c = args c.image.now c.size c.ident.now c.text.now c.time (rules c.choices c.table.now)

abbrev pub report_of : counted.Report → Report
report_of r = record {
  source_groups_lem = r.source_groups;
  time_groups_lem = r.time_groups;
  signal_groups_lem = r.signal_groups;
  shared_time_groups_lem = r.shared_time_groups;
  data_blocks = r.data_blocks;
  metadata_size_lem = r.metadata_size;
  file_size_lem = r.file_size;
}

abbrev pub answer_of : Result counted.Report Refusal → Checked Report
answer_of (Err x) = refused (number_of x) (place_of x)
answer_of (Ok r) = ok (report_of r)

-- the answer with what the call left in output, list and work slices
abbrev pub left : Result counted.Report Refusal → List ℕ → List ℕ → List (List ℕ) → Outcome
left r out list work = record { answered = answer_of r; output = out; list = list; work = work }

-- the file of a call, nothing for a refusal
abbrev pub file_for : Args → Checked Decided → List ℕ
file_for x (ok d) = file_of x d.laid_out
file_for x (refused number place) = []

-- the elements of an image are bytes
pub record Bytes (s : List ℕ) : Type 0 where
  pub all : AllBytes s

-- Demand 3 of the output's and the list's last values, for whatever was accepted
pub record Promised (x : Args) (out list : ℕ) (work : List (List ℕ)) (bytes words : List ℕ) : Type 0 where
  pub accepted : (d : Decided) → and_then (work_in work) (λ _. answer x out list) ≡ ok d → Guaranteed x d bytes words
