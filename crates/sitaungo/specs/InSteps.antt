-- What the exported beginning of a conversion in steps answers: the outcome as of a conversion in one go, and the state; all zero after a refusal, so
-- that it has no step (include/sitaungo.h).
use Rattle.std.specs.Prelude.{ℕ, true, false, List, ◌≡◌, Result, Ok, Err}
use Rattle.base.specs.Checked.{ok, refused}
use Rattle.result.specs.Result.{Args}
use Rattle.writing.specs.Answer.{report_of}
use Rattle.steps.specs.declared.conversion.Conversion.{Conversion}
use Rattle.steps.specs.declared.begin.Started.{Started}
use Rattle.fields.specs.declared.refusal.Refusal.{Refusal}
use Rattle.fields.specs.Answer.{number_of, place_of}
use Rattle.steps.specs.Steps.{Starts}
use Rattle.sitaungo.specs.declared.in_steps.Begun.{Begun}
use Rattle.sitaungo.specs.Answer.{numbers_of}

abbrev pub no_conversion : Conversion
no_conversion = record {
  block_size = 0;
  time = 0;
  unit = 0;
  share = false;
  photos = false;
  items = 0;
  pieces = 0;
  columns = 0;
  omissions = 0;
  history = 0;
  chain = 0;
  md = 0;
  fh = 0;
  metadata = 0;
  copies = 0;
  attachments = 0;
  metadata_end = 0;
  file_size = 0;
  steps = 0;
  next = 0;
  count = 0;
  name_a = 0;
  name_b = 0;
  name_c = 0;
  name_d = 0;
  place_a = 0;
  place_b = 0;
  place_c = 0;
  place_d = 0;
}

abbrev pub begun_of : Result Started Refusal → Begun
begun_of (Err r) = record { outcome = numbers_of (refused (number_of r) (place_of r)); conversion = no_conversion }
begun_of (Ok s) = record { outcome = numbers_of (ok (report_of s.report)); conversion = s.conversion }

-- a call of `begin` of the crate steps, exported
pub record Began (x : Args) (out list : ℕ) (a b c d p q : List ℕ) (r : Begun) (a' b' c' d' p' q' : List ℕ) : Type 0 where
  pub started : Result Started Refusal
  pub is : r ≡ begun_of started
  pub starts : Starts x out list a b c d p q started a' b' c' d' p' q'
