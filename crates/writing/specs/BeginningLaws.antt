-- Laws of what is known of a call before anything is written.
use Rattle.std.specs.Prelude.{◌≡◌, ℕ, ◌+◌, ◌*◌, Bool, true, false, List, length, nat_lt, refl}
use Rattle.std.proofs.Common.{sym, ◌∙◌}
use Rattle.std.proofs.Math.Path.{ap}
use Rattle.base.specs.Choice.{pick, if_lt}
use Rattle.base.specs.Checked.{ok, refused, and_then, Verdict, fine}
use Rattle.base.specs.BlitLaws.{length-blit}
use Rattle.work_words.specs.Words.{laid_items}
use Rattle.work_words.specs.CopyWords.{laid_copies}
use Rattle.work_words.specs.PlanWords.{laid_plan}
use Rattle.plan.specs.Rules.{Rules}
use Rattle.plan.specs.Columns.{omission_words}
use Rattle.result.specs.Result.{Args, Decided, decided, answer, work_in, zeros}
use Rattle.placing.specs.declared.layout.Numbers.{Numbers}
use Rattle.placing.specs.Decision.{untimed, four, Shares, DecidedIn, RefusedIn}
use Rattle.placing.specs.DecisionLaws.{work_fine}
use Rattle.writing.specs.declared.convert.Report as counted
use Rattle.writing.specs.Answer.{args}
use Rattle.writing.specs.Finish.{Stands, Reported}
use Rattle.writing.specs.FinishLaws.{decided-untimed, lent-fine-of, refused_answer, lent-untimed, stands_timed, shares-timed, stands_words, stands_report}
use Rattle.writing.specs.RoomLaws.{answer-room}
use Rattle.writing.specs.Beginning.{room_in, RefusedCall, AcceptedCall}

-- ---- a refusal of what was to be decided
pub call_undecided : (image : List ℕ) (size : ℕ) (ident text : List ℕ) (time : ℕ) (chosen : Rules) (out list : ℕ) {ws ws' : List (List ℕ)} {n p : ℕ}
    → RefusedIn (untimed image size ident text chosen) n p ws ws' → RefusedCall (args image size ident text time chosen) out list n p ws ws'
call_undecided image size ident text time chosen out list {ws} {ws'} {n} {p} r =
    let x : Args = args image size ident text time chosen in
    let e : and_then (work_in ws) (λ _. decided x) ≡ refused n p = rw (decided-untimed image size ident text time chosen) r.is in
    record {
      is = refused_answer x out list (work_in ws) e;
      words = rw (lent-untimed image size ident text time chosen) r.words;
    }

-- ---- what follows the decision
module _ (image : List ℕ) (size : ℕ) (ident text : List ℕ) (time : ℕ) (chosen : Rules) (out list : ℕ)
    {i f k o : ℕ} {n : Numbers} {a b c d a' b' c' d' : List ℕ} (t : DecidedIn (untimed image size ident text chosen) i f k o n a b c d a' b' c' d') where
  abbrev x : Args
  x = args image size ident text time chosen

  stands : Stands x i f k o n a' b' c' d'
  stands = stands_timed time t

  fits : work_in (four a b c d) ≡ fine
  fits = work_fine a b c d t.long_a t.long_b t.long_c t.long_d

  answers : answer x out list ≡ and_then (room_in out list n.file_size (2 * o + 1)) (λ _. ok stands.by.told)
  answers = answer-room x stands.by.told stands.by.is out list n.file_size (2 * o + 1) stands.by.numbered.file_size_lem (stands_words stands)

  same-zeros : zeros (four a' b' c' d') ≡ zeros (four a b c d)
  unfolding zeros laid_plan laid_copies laid_items
  same-zeros =
      let la : length a' ≡ length a = ap length t.in_source ∙ rw (length-blit, length-blit, length-blit, length-blit) in
      let lb : length b' ≡ length b = ap length t.in_fragments ∙ rw length-blit in
      let lc : length c' ≡ length c = ap length t.in_columns ∙ rw (length-blit, length-blit) in
      let ld : length d' ≡ length d = ap length t.numbered.words ∙ rw (length-blit, length-blit, length-blit, length-blit) in
      rw (la, lb, lc, ld)

  pub call-short : {m p : ℕ} {ws' : List (List ℕ)} → room_in out list n.file_size (2 * o + 1) ≡ refused m p → ws' ≡ zeros (four a' b' c' d')
      → RefusedCall x out list m p (four a b c d) ws'
  call-short e z =
      record {
        is = rw (fits, answers, e);
        words = z ∙ same-zeros ∙ rw (fits, lent-fine-of x stands.by.told stands.by.is);
      }

  pub call_accepted : {r : counted.Report} {shared metadata bytes : ℕ} → room_in out list n.file_size (2 * o + 1) ≡ fine
      → Reported image size a' c' i k shared metadata bytes r → Shares (decided (untimed image size ident text chosen)) shared
      → metadata ≡ n.metadata_end → bytes ≡ n.file_size → AcceptedCall x out list i f k o n r (four a b c d) a' b' c' d'
  call_accepted e z h p q =
      record {
        stands = stands;
        is = rw (fits, answers, e);
        reported = stands_report stands z (shares-timed image size ident text time chosen h) (p ∙ stands.by.numbered.metadata_end_lem) (q ∙ stands.by.numbered.file_size_lem);
      }
