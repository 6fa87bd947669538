-- Several conversions on one converter, of what was decided for each (document 02, request 12): whatever passes and calls there are, a finished job
-- has the file and the list that the converter leaves in one go, and one that isn't finished a file that it refuses with 5.
use Rattle.std.specs.Prelude.{ℕ, ◌+◌, ◌≤◌, ◌<◌, List, [], ◌≡◌, length, take, replicate}
use Rattle.std.proofs.Math.Option.{some}
use Rattle.std.proofs.Common.{sym, ◌∙◌, arith}
use Rattle.std.proofs.Math.Path.{ap}
use Rattle.std.proofs.Math.ListN.{get_elem?}
use Rattle.base.specs.Checked.{ok, refused, fine}
use Rattle.plan.specs.Columns.{omission_words}
use Rattle.result.specs.Result.{Args, Decided, file_of, decided, answer, work_in, convert}
use Rattle.plan_laws.specs.Decision.{answer_accepted}
use Rattle.plan_laws.specs.Known.{answer-known}
use Rattle.stores.specs.Stores.{steps_of, Running}
use Rattle.stores.proofs.RunLaws.{run_length}
use Rattle.stores.specs.RunLaws.{ran}
use Rattle.stores_laws.specs.Passing.{Passing}
use Rattle.stores_laws.specs.Refused.{zeros-decided, zeros-answer, zeros-convert}
use Rattle.stores_laws.specs.Steps.{file_least, in_steps, steps_known, finished}
use Rattle.passes.specs.Passes.{Task, Cell, left_of, Event, after}
use Rattle.passes.proofs.PassesLaws.{all-alone, job-cut, job_there}
use Rattle.passes.specs.PassesLaws.{Alone, beginning}

-- the job that a conversion is, once decided: its file and its list, over out and list
abbrev pub task_of : Args → Decided → List ℕ → List ℕ → Task
task_of x d out list = record { made = file_of x d.laid_out; words = omission_words d.planned.omissions; out = out; list = list }

-- job number i after any sequence of passes, calls and beginnings, where it is the conversion of x over out and list
module _ (es : List Event) (i : ℕ) (c : Cell) (at : get_elem? (after es []) i ≡ some c) (x : Args) (d : Decided) (out list : List ℕ)
    (e : answer x (length out) (length list) ≡ ok d) (is : c.task ≡ task_of x d out list) where
  pub alone : Alone c
  alone = all-alone es i c at

  -- some calls of request 11 on it alone
  pub job_in_steps : c.running ≡ in_steps x d out list alone.calls
  job_in_steps = alone.reached ∙ ap (λ (t : Task). ran t.made t.words t.out t.list alone.calls) is

  steps : steps_of (length c.task.made) ≡ steps_of d.laid_out.file_size_lem
  steps = ap (λ (t : Task). steps_of (length t.made)) is ∙ steps_known x d out list e

  -- "Any sequence of passes gives each finished cell the file it would have had alone", and the list
  pub job_finished : (work : List (List ℕ)) → work_in work ≡ fine → left_of c ≡ 0
      → (c.running.file ≡ (convert x out list work).output) × (c.running.list ≡ (convert x out list work).list)
  unfolding left_of
  job_finished work w z =
      let f = finished x d out list e alone.calls work w (omega (arith, z, steps, ap (λ (r : Running). r.state.next) job_in_steps)) in
      (ap (λ (r : Running). r.file) job_in_steps ∙ f.0, ap (λ (r : Running). r.list) job_in_steps ∙ f.1)

  -- one that isn't finished, once a store was made
  module _ (left : 0 < left_of c) (made : 1 ≤ c.running.high) where
    room : 256 ≤ length out
    room = omega (arith, file_least x d (answer-known x (length out) (length list) d e), (answer_accepted x (length out) (length list) d e).output_fits)

    over : length c.task.out ≡ length out
    over = ap (λ (t : Task). length t.out) is

    cut : (take 8 c.running.file ≡ replicate 8 0) × (c.running.list ≡ c.task.list)
    cut = job-cut es i c at (omega (arith, room, over)) left made

    -- its list is as it was
    pub job_unlisted : c.running.list ≡ list
    job_unlisted = cut.1 ∙ ap (λ (t : Task). t.list) is

    module _ (y : Args) (of : y.image ≡ c.running.file) (p : Passing y) where
      long : 64 ≤ length y.image
      long =
          omega (
            arith,
            room,
            ap length of,
            ap (λ (r : Running). length r.file) job_in_steps,
            run_length (file_of x d.laid_out) (omission_words d.planned.omissions) out list alone.calls,
          )

      zeros : take 8 y.image ≡ replicate 8 0
      zeros = ap (take 8) of ∙ cut.0

      -- its file is refused with 5
      pub job-decided : decided y ≡ refused 5 0
      job-decided = zeros-decided y p long zeros

      pub job-answer : (bytes spaces : ℕ) → answer y bytes spaces ≡ refused 5 0
      job-answer = zeros-answer y p long zeros

      pub job-convert : (out' list' : List ℕ) (work : List (List ℕ)) → work_in work ≡ fine → (convert y out' list' work).answered ≡ refused 5 0
      job-convert = zeros-convert y p long zeros

-- so of the job that began as number i
pub began_finished : (es : List Event) (i : ℕ) (x : Args) (d : Decided) (out list : List ℕ) → answer x (length out) (length list) ≡ ok d
    → get_elem? (beginning es) i ≡ some (task_of x d out list)
    → (c : Cell) × (get_elem? (after es []) i ≡ some c)
    × ((work : List (List ℕ)) → work_in work ≡ fine → left_of c ≡ 0
    → (c.running.file ≡ (convert x out list work).output) × (c.running.list ≡ (convert x out list work).list))
began_finished es i x d out list e b =
    let t = job_there es i (task_of x d out list) b in
    (t.0, t.1, λ work w z. job_finished es i t.0 t.1 x d out list e t.2 work w z)
