-- Laws of the room that an output and a list have: it decides whether what was decided is written.
use Rattle.std.specs.Prelude.{◌≡◌, ℕ, ◌≤◌, Bool, true, false, length, nat_lt, refl, Result, Ok, Err, ⊤}
use Rattle.std.proofs.Common.{sym, ◌∙◌}
use Rattle.base.specs.Choice.{pick, if_lt}
use Rattle.base.specs.ChoiceLaws.{lt_back}
use Rattle.base.specs.CheckedLaws.{refused≢ok}
use Rattle.base.specs.Checked.{ok, refused, and_then, Verdict, fine}
use Rattle.fields.specs.declared.refusal.Refusal.{Refusal}
use Rattle.fields.specs.Answer.{refused_by, verdict_of}
use Rattle.plan.specs.Columns.{omission_words}
use Rattle.result.specs.Result.{Args, Decided, decided, answer}
use Rattle.writing.specs.Beginning.{room_in}

-- the room decides the answer
pick-room : (s t : Bool) (bytes words : ℕ) (d : Decided)
    → pick s (refused 20 bytes) (pick t (refused 21 words) (ok d)) ≡ and_then (pick s (refused 20 bytes) (pick t (refused 21 words) fine)) (λ _. ok d)
pick-room true t bytes words d = refl
pick-room false true bytes words d = refl
pick-room false false bytes words d = refl

then_room : (out list bytes words : ℕ) (d : Decided)
    → if_lt out bytes (refused 20 bytes) (if_lt list words (refused 21 words) (ok d)) ≡ and_then (room_in out list bytes words) (λ _. ok d)
unfolding if_lt
then_room out list bytes words d = pick-room (nat_lt out bytes) (nat_lt list words) bytes words d

pub answer-room : (x : Args) (d : Decided) → decided x ≡ ok d → (out list bytes words : ℕ) → bytes ≡ d.laid_out.file_size_lem → words ≡ length (omission_words d.planned.omissions)
    → answer x out list ≡ and_then (room_in out list bytes words) (λ _. ok d)
unfolding answer
answer-room x d e out list bytes words f g = rw (e, f, g) (then_room out list d.laid_out.file_size_lem (length (omission_words d.planned.omissions)) d)

-- a check's answer taken apart
pub verdict_refused : {v : Verdict} {r : Result ⊤ Refusal} {x : Refusal} → verdict_of r ≡ v → r ≡ Err x → v ≡ refused_by x
verdict_refused e q = sym e ∙ rw q

pub verdict_fine : {v : Verdict} {r : Result ⊤ Refusal} {u : ⊤} → verdict_of r ≡ v → r ≡ Ok u → v ≡ fine
verdict_fine e q = sym e ∙ rw q

-- there is room
pub room_of : {r : Result ⊤ Refusal} {u : ⊤} (out list bytes words : ℕ) → verdict_of r ≡ room_in out list bytes words → r ≡ Ok u
    → (bytes ≤ out) × (words ≤ list)
room_of out list bytes words e q =
    let a = lt_back _ _ _ _ (sym e ∙ rw q) refused≢ok in
    (a.0, (lt_back _ _ _ _ a.1 refused≢ok).0)
