-- A refusal leaves the output, an accepted call the new file at its front; the work slices are as the definition says.
use Rattle.std.specs.Prelude.{ℕ, ◌≤◌, List, [], ◌∷◌, ◌≡◌, refl, replicate, Result, Ok, Err}
use Rattle.std.proofs.Common.{sym, subst, ◌∙◌, arith}
use Rattle.std.proofs.Math.Path.{ap}
use Rattle.std.proofs.Math.ListN.{length}
use Rattle.base.specs.Choice.{if_lt}
use Rattle.base.specs.ChoiceLaws.{lt_no}
use Rattle.base.specs.Blit.{blit}
use Rattle.base.specs.BlitLaws.{length-blit}
use Rattle.base.specs.Checked.{Checked, ok, refused, and_then, fine}
use Rattle.base.specs.CheckedLaws.{refused≢ok, ok_same, then_ok}
use Rattle.plan.specs.Layout.{Layout}
use Rattle.result.specs.Result.{work_in, work_left, zeros}
use Rattle.work_words.specs.CopyWords.{laid_copies}
use Rattle.file.specs.Form.{FileColumn}
use Rattle.file.specs.Opened.{opened}
use Rattle.thin.specs.Fill.{file_kept}
use Rattle.thin.specs.TakenOut.{answer, Outcome, outcome, take_out}
use Rattle.thin.specs.Guarantee.{TakenOut}
use Rattle.thin_guarantee.specs.Theorem.{takes_out}
use Rattle.fields.specs.declared.refusal.Refusal.{Refusal}
use Rattle.fields.specs.Answer.{number_of, place_of}
use Rattle.arranging.specs.declared.decide.Numbers.{Numbers}
use Rattle.arranging.specs.Answered.{four, ArrangedIn, RefusedIn, Arranges}
use Rattle.thinning.specs.Whole.{Stands}
use Rattle.thinning.specs.Answer.{Bytes, taken_as, left, Promised}

-- ---- what was arranged
module _ {u : ℕ} {s numbers : List ℕ} {out : ℕ} {a b c d a' b' c' d' : List ℕ} {r : Result Numbers Refusal} (h : Arranges u s numbers out a b c d r a' b' c' d') where
  pub arranges_refused : {x : Refusal} → r ≡ Err x → RefusedIn u s numbers out (number_of x) (place_of x) (four a b c d) (four a' b' c' d')
  arranges_refused e = subst (λ (q : Result Numbers Refusal). Arranges u s numbers out a b c d q a' b' c' d') e h

  pub arranges_done : {n : Numbers} → r ≡ Ok n → ArrangedIn u s numbers out n a b c d a' b' c' d'
  arranges_done e = subst (λ (q : Result Numbers Refusal). Arranges u s numbers out a b c d q a' b' c' d') e h

-- ---- what the writer asks for
pub writer_asks : {u : ℕ} {s numbers : List ℕ} (out : List ℕ) {n : Numbers} {a b c d a' b' c' d' : List ℕ} → Bytes s
    → (r : ArrangedIn u s numbers (length out) n a b c d a' b' c' d') → Stands s c' d' n out r.told
writer_asks {u} {s} {numbers} out {c = c} {d = d} bytes r =
    record {
      u = u;
      numbers = numbers;
      all = r.all;
      c = c;
      d = d;
      bytes = bytes.all;
      opens = r.is_all;
      is = r.is;
      long_c = r.long_c;
      long_d = r.long_d;
      in_columns = r.in_columns;
      numbered = r.numbered;
    }

-- ---- what is left
pub refused_left : {u : ℕ} {s numbers : List ℕ} (out : List ℕ) (x : Refusal) {ws ws' : List (List ℕ)}
    → RefusedIn u s numbers (length out) (number_of x) (place_of x) ws ws' → left (Err x) out ws' ≡ take_out u s numbers out ws
unfolding take_out
refused_left out x r =
    rw (r.is, r.words)

enough : (a b c d : List ℕ) → 8192 ≤ length a → 8192 ≤ length b → 8192 ≤ length c → 8192 ≤ length d → work_in (four a b c d) ≡ fine
unfolding work_in
enough a b c d ha hb hc hd =
    sym (lt_no _ _ _ _ ha (lt_no _ _ _ _ hb (lt_no _ _ _ _ hc (lt_no _ _ _ _ hd refl))))

module _ {u : ℕ} {s numbers : List ℕ} (out : List ℕ) {n : Numbers} {a b c d a' b' c' d' : List ℕ} (r : ArrangedIn u s numbers (length out) n a b c d a' b' c' d') where
  pub work_fine : work_in (four a b c d) ≡ fine
  work_fine = enough a b c d r.long_a r.long_b r.long_c r.long_d

  long-a : length a' ≡ length a
  long-a = ap length r.in_source

  long-b : length b' ≡ length b
  long-b = ap length r.in_fragments ∙ length-blit 0 _ b

  long-c : length c' ≡ length c
  long-c = ap length r.in_columns ∙ length-blit 0 _ c

  long-d : length d' ≡ length d
  unfolding laid_copies
  long-d = ap length r.numbered.words ∙ simp length-blit

  pub done_left : {out' a'' b'' c'' d'' : List ℕ} → out' ≡ blit 0 (file_kept s r.told) out
      → a'' ≡ replicate (length a') 0 → b'' ≡ replicate (length b') 0 → c'' ≡ replicate (length c') 0 → d'' ≡ replicate (length d') 0
      → left (Ok n.file_size) out' (four a'' b'' c'' d'') ≡ take_out u s numbers out (four a b c d)
  unfolding take_out zeros
  done_left e ea eb ec ed = rw (work_fine, r.is, e, ea, eb, ec, ed, long-a, long-b, long-c, long-d, r.numbered.file_size_lem)

-- ---- what is promised

-- an empty image has no other elements
pub none-bytes : (s : List ℕ) → length s ≤ 0 → Bytes s
none-bytes [] h = record { all = λ i. omega arith }
none-bytes (a ∷ s) h = absurd (omega arith)

pub promised_by : {u : ℕ} {s numbers : List ℕ} (out : List ℕ) (ws : List (List ℕ)) (y : Outcome) → Bytes s
    → y ≡ take_out u s numbers out ws → Promised u s numbers (length out) ws y.output
unfolding take_out
promised_by {u} {s} {numbers} out ws y bytes e =
    record {
      accepted = λ all l o q.
          let k = then_ok (work_in ws) (λ _. answer u s numbers (length out)) q in
          let m : y.output ≡ blit 0 (file_kept s l) out =
          ap (λ (x : Outcome). x.output) e ∙ ap (λ (v : Checked Layout). (outcome s out (work_left (work_in ws) ws) v).output) q in
          subst (TakenOut u s numbers all l) (sym m) (takes_out u s numbers out all l bytes.all o k.2);
    }
