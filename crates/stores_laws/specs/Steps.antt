-- A conversion in steps, of what was decided for a call (document 02, request 11): cut, it leaves a file that the converter refuses with 5; finished,
-- the file and the list that the converter leaves in one go.
use Rattle.std.specs.Prelude.{ℕ, ◌+◌, ◌≤◌, ◌<◌, List, ◌∷◌, ◌++◌, ◌≡◌, length, take, replicate}
use Rattle.std.proofs.Common.{sym, ap, ◌∙◌, arith}
use Rattle.base.specs.Blit.{blit}
use Rattle.base.specs.Checked.{ok, refused, and_then, fine}
use Rattle.plan.specs.Columns.{omission_words}
use Rattle.plan.specs.Geometry.{align8}
use Rattle.plan.specs.Layout.{md_size}
use Rattle.result.specs.Fill.{fh_bytes}
use Rattle.result.specs.Result.{Args, Decided, blocks_of, file_of, lent_in, decided, answer, work_in, work_left, outcome, convert}
use Rattle.copies_laws.specs.Laid.{align_past, laid-ends}
use Rattle.copies_laws.specs.LengthLaws.{length_fh}
use Rattle.copies_laws.specs.LayoutLaws.{history-laid}
use Rattle.plan_laws.specs.Decision.{answer_accepted}
use Rattle.plan_laws.specs.Known.{Known, answer-known}
use Rattle.shown_laws.specs.Flat.{length-flat, ordered-by}
use Rattle.shown_laws.specs.AllShown.{in_rest, in_fh}
use Rattle.guarantee.specs.Theorem as theorem
use Rattle.stores.specs.Stores.{steps_of, Op, step, Running}
use Rattle.stores.proofs.RunLaws.{run_length, run-cut, run_finished, step_reaches}
use Rattle.stores.specs.RunLaws.{ran}
use Rattle.stores_laws.specs.Passing.{Passing}
use Rattle.stores_laws.specs.Refused.{then_on, zeros-decided, zeros-answer, zeros-convert}

-- ---- the finished file

md_least : (n : ℕ) → 32 ≤ md_size n
unfolding md_size align8
md_least n = omega arith

module _ (x : Args) (d : Decided) (k : Known x d) where
  -- as many bytes as its size says
  pub file-length : length (file_of x d.laid_out) ≡ d.laid_out.file_size_lem
  unfolding file_of
  file-length = length-flat (blocks_of x d.laid_out) d.laid_out.file_size_lem (theorem.ordered x d k)

  -- "The smallest result": identification 64, HD 104, MD 32, FH 56
  pub file_least : 256 ≤ d.laid_out.file_size_lem
  file_least =
      let o = theorem.o x d k in
      let e : d.laid_out.fh + length (fh_bytes d.laid_out.md x.time) ≤ d.laid_out.file_size_lem =
      ordered-by (blocks_of x d.laid_out) 0 d.laid_out.file_size_lem (theorem.ordered x d k) (in_rest x d.laid_out (in_fh x d.laid_out)) in
      omega (
        arith,
        length_fh d.laid_out.md x.time,
        md_least (length x.text),
        o.md,
        o.fh,
        align_past d.laid_out.past.made.next,
        laid-ends x.image 168 d.laid_out.past.made.next d.laid_out.past.made.memo (history-laid o),
      )

-- ---- in steps

-- what calls leave of a conversion that was begun with what was decided, over out and list
abbrev pub in_steps : Args → Decided → List ℕ → List ℕ → List Op → Running
in_steps x d out list os = ran (file_of x d.laid_out) (omission_words d.planned.omissions) out list os

accepted_output : (x : Args) (d : Decided) (out list : List ℕ) (work : List (List ℕ)) → answer x (length out) (length list) ≡ ok d → work_in work ≡ fine
    → ((convert x out list work).output ≡ blit 0 (file_of x d.laid_out) out)
    × ((convert x out list work).list ≡ blit 0 (omission_words d.planned.omissions) list)
unfolding convert
accepted_output x d out list work e w =
    let a : and_then (work_in work) (λ _. answer x (length out) (length list)) ≡ ok d = then_on _ _ w ∙ e in (
      ap (λ v. (outcome x out list (work_left (and_then (work_in work) (λ _. lent_in x)) work) v).output) a,
      ap (λ v. (outcome x out list (work_left (and_then (work_in work) (λ _. lent_in x)) work) v).list) a,
    )

module _ (x : Args) (d : Decided) (out list : List ℕ) (e : answer x (length out) (length list) ≡ ok d) where
  known : Known x d
  known = answer-known x (length out) (length list) d e

  -- "the number of steps is known before the first", from the size
  pub steps_known : steps_of (length (file_of x d.laid_out)) ≡ steps_of d.laid_out.file_size_lem
  steps_known = ap steps_of (file-length x d known)

  -- "after the last it is the file made in one go", and so is the list
  pub finished : (os : List Op) (work : List (List ℕ)) → work_in work ≡ fine → steps_of d.laid_out.file_size_lem ≤ (in_steps x d out list os).state.next
      → ((in_steps x d out list os).file ≡ (convert x out list work).output) × ((in_steps x d out list os).list ≡ (convert x out list work).list)
  finished os work w h =
      let c = accepted_output x d out list work e w in
      let f = run_finished (file_of x d.laid_out) (omission_words d.planned.omissions) out list os
      (omega (arith, file-length x d known, file_least x d known)) (omega (arith, steps_known)) in
      (f.0 ∙ sym c.0, f.1 ∙ sym c.1)

-- "A cut after any store but the last leaves a file that the converter, called with arguments that pass 1, 2, 26, 27 and 3, refuses with 5": after any
-- calls that have a step among them
module _ (x : Args) (d : Decided) (out list : List ℕ) (e : answer x (length out) (length list) ≡ ok d) (os more : List Op)
    (left : (in_steps x d out list (os ++ step ∷ more)).state.next < steps_of d.laid_out.file_size_lem) where
  abbrev f : List ℕ
  f = file_of x d.laid_out

  abbrev words : List ℕ
  words = omission_words d.planned.omissions

  room : 256 ≤ length out
  room = omega (arith, file_least x d (known x d out list e), (answer_accepted x (length out) (length list) d e).output_fits)

  cleared : (take 8 (in_steps x d out list (os ++ step ∷ more)).file ≡ replicate 8 0) × ((in_steps x d out list (os ++ step ∷ more)).list ≡ list)
  cleared =
      run-cut f words out list (os ++ step ∷ more) (omega (arith, room)) (omega (arith, left, steps_known x d out list e)) (step_reaches f words out list os more)

  -- the list is as it was
  pub cut_list : (in_steps x d out list (os ++ step ∷ more)).list ≡ list
  cut_list = cleared.1

  module _ (y : Args) (is : y.image ≡ (in_steps x d out list (os ++ step ∷ more)).file) (p : Passing y) where
    long : 64 ≤ length y.image
    long = omega (arith, room, ap length is, run_length f words out list (os ++ step ∷ more))

    zeros : take 8 y.image ≡ replicate 8 0
    zeros = ap (take 8) is ∙ cleared.0

    pub cut-decided : decided y ≡ refused 5 0
    cut-decided = zeros-decided y p long zeros

    pub cut-answer : (bytes spaces : ℕ) → answer y bytes spaces ≡ refused 5 0
    cut-answer = zeros-answer y p long zeros

    pub cut-convert : (out' list' : List ℕ) (work : List (List ℕ)) → work_in work ≡ fine → (convert y out' list' work).answered ≡ refused 5 0
    cut-convert = zeros-convert y p long zeros
