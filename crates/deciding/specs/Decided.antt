-- What a decision leaves: the code's answer and the fragments; after a refusal the words are not read again.
use Rattle.std.specs.Prelude.{ℕ, ◌+◌, List, Bool, true, false, Result, Ok, Err, Option, Some, None}
use Rattle.base.specs.Checked.{Checked, ok, refused}
use Rattle.fields.specs.declared.refusal.Refusal.{Refusal}
use Rattle.fields.specs.Answer.{number_of, place_of}
use Rattle.chains.specs.Kept.{kept}
use Rattle.plan.specs.Columns.{Signal, no_signal, signal_data, size_of_signal, omitted}
use Rattle.plan.specs.Columns as columns
use Rattle.work_words.specs.PlanWords.{fragments_in}
use Rattle.deciding.specs.declared.reason.Reason.{Reason}
use Rattle.deciding.specs.declared.Decision.{Decision}
use Rattle.deciding.specs.declared.Decision.TheVariants.{Omitted, Kept}
use Rattle.deciding.specs.Reasons.{reason_number}

-- what a test answers: a refusal, or a reason's number, 0 for none
abbrev pub tested_as : Result (Option Reason) Refusal → Checked ℕ
tested_as (Err x) = refused (number_of x) (place_of x)
tested_as (Ok None) = ok 0
tested_as (Ok (Some reason)) = ok (reason_number reason)

-- a refusal; omitted for a reason; or kept, with signal data or not, and so many fragments
pub data Left : Type 0 where
  stops : ℕ → ℕ → Left
  omits : ℕ → List ℕ → Left
  keeps : Bool → ℕ → List ℕ → Left

abbrev pub left : Result Decision Refusal → List ℕ → Left
left (Err x) w = stops (number_of x) (place_of x)
left (Ok (Omitted reason)) w = omits (reason_number reason) w
left (Ok (Kept signal count)) w = keeps signal count w

abbrev pub is_signed : Signal → Bool
is_signed no_signal = false
is_signed (signal_data fs) = true

-- n fragments are kept before
unfoldable pub laid_decision : Checked columns.Decision → ℕ → List ℕ → Left
laid_decision (refused number place) n w = stops number place
laid_decision (ok (omitted reason)) n w = omits reason w
laid_decision (ok (columns.kept d)) n w = keeps (is_signed d) (n + size_of_signal d) (kept n (fragments_in d) w)
