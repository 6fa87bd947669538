-- What is known of a call before anything is written: a refusal, or what was decided and its report.
use Rattle.std.specs.Prelude.{◌≡◌, ℕ, List, Result, Ok, Err}
use Rattle.base.specs.Choice.{if_lt}
use Rattle.base.specs.Checked.{ok, refused, and_then, Verdict, fine}
use Rattle.result.specs.Result.{Args, lent_in, answer, report, work_in, work_left}
use Rattle.placing.specs.Decision.{four}
use Rattle.placing.specs.declared.layout.Numbers.{Numbers}
use Rattle.writing.specs.declared.convert.Report as counted
use Rattle.writing.specs.declared.begin.Beginning.{Beginning}
use Rattle.fields.specs.declared.refusal.Refusal.{Refusal}
use Rattle.fields.specs.Answer.{number_of, place_of}
use Rattle.writing.specs.Answer.{report_of}
use Rattle.writing.specs.Finish.{Stands}

-- 20, 21: an output and a list of so many have room for so many bytes and words
abbrev pub room_in : ℕ → ℕ → ℕ → ℕ → Verdict
room_in out list bytes words = if_lt out bytes (refused 20 bytes) (if_lt list words (refused 21 words) fine)

-- a whole call is refused, and the words are left as by it
pub record RefusedCall (x : Args) (out list number place : ℕ) (ws ws' : List (List ℕ)) : Type 0 where
  pub is : and_then (work_in ws) (λ _. answer x out list) ≡ refused number place
  pub words : ws' ≡ work_left (and_then (work_in ws) (λ _. lent_in x)) ws

-- a whole call is accepted: what was decided stands in the words, and has this report
pub record AcceptedCall (x : Args) (out list items fragments columns omissions : ℕ) (n : Numbers) (r : counted.Report) (ws : List (List ℕ)) (a' b' c' d' : List ℕ) : Type 0 where
  pub stands : Stands x items fragments columns omissions n a' b' c' d'
  pub is : and_then (work_in ws) (λ _. answer x out list) ≡ ok stands.by.told
  pub reported : report_of r ≡ report x stands.by.told

abbrev pub Begins : Args → ℕ → ℕ → List ℕ → List ℕ → List ℕ → List ℕ → Result Beginning Refusal → List ℕ → List ℕ → List ℕ → List ℕ → Type 0
Begins x out list a b c d (Err r) a' b' c' d' = RefusedCall x out list (number_of r) (place_of r) (four a b c d) (four a' b' c' d')
Begins x out list a b c d (Ok r) a' b' c' d' =
    AcceptedCall x out list r.items r.fragments r.columns r.omissions r.numbers r.report (four a b c d) a' b' c' d'
