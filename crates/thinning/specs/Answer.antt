-- What the whole call answers and leaves, and what it promises of the new file.
use Rattle.std.specs.Prelude.{ℕ, ◌<◌, List, ◌≡◌, get_or, Result, Ok, Err}
use Rattle.base.specs.Checked.{Checked, ok, refused, and_then}
use Rattle.plan.specs.Layout.{Layout}
use Rattle.result.specs.Result.{work_in}
use Rattle.file.specs.Form.{FileColumn}
use Rattle.file.specs.Opened.{opened}
use Rattle.thin.specs.TakenOut.{answer, Outcome}
use Rattle.thin.specs.Guarantee.{TakenOut}
use Rattle.fields.specs.declared.refusal.Refusal.{Refusal}
use Rattle.fields.specs.Answer.{number_of, place_of}

-- the elements of an image are bytes
pub record Bytes (s : List ℕ) : Type 0 where
  pub all : (i : ℕ) → get_or s i 0 < 256

-- document 02's numbers and values for each answer
abbrev pub taken_as : Result ℕ Refusal → Checked ℕ
taken_as (Ok bytes) = ok bytes
taken_as (Err x) = refused (number_of x) (place_of x)

-- the answer with what the call left in output and work slices
abbrev pub left : Result ℕ Refusal → List ℕ → List (List ℕ) → Outcome
left r out work = record { answered = taken_as r; output = out; work = work }

-- the final bytes of whatever was accepted
pub record Promised (u : ℕ) (s numbers : List ℕ) (out : ℕ) (work : List (List ℕ)) (bytes : List ℕ) : Type 0 where
  pub accepted : (all : List FileColumn) (l : Layout) → opened s ≡ ok all → and_then (work_in work) (λ _. answer u s numbers out) ≡ ok l
      → TakenOut u s numbers all l bytes
