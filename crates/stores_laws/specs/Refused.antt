-- An image whose first eight bytes are zero is refused with 5, whatever follows them.
use Prim.{Unit, tt}
use Rattle.std.specs.Prelude.{ℕ, ◌≤◌, ◌<◌, List, ◌≡◌, refl, length, get_or, take, replicate}
use Rattle.std.proofs.Common.{sym, ◌∙◌, arith, get_or-take}
use Rattle.std.proofs.Math.Path.{ap}
use Rattle.std.proofs.lemmas.List.{get_or-replicate}
use Rattle.base.specs.ChoiceLaws.{lt_no, eq_no}
use Rattle.base.specs.Field.{le_at}
use Rattle.base.specs.Checked.{Checked, refused, and_then, Verdict, fine}
use Rattle.mdf.specs.Identification.{identified}
use Rattle.result.specs.Result.{Args, lent_in, decided, answer, work_in, work_left, outcome, convert}
use Rattle.stores_laws.specs.Passing.{Passing}

-- ---- what follows a check
pub then_on : {B : Type 0} (v : Verdict) (g : Unit {0} → Checked B) → v ≡ fine → and_then v g ≡ g tt
then_on v g e = ap (λ (w : Verdict). and_then w g) e

then_ends : {A B : Type 0} {n p : ℕ} (v : Checked A) (g : A → Checked B) → v ≡ refused n p → and_then v g ≡ refused n p
then_ends v g e = ap (λ w. and_then w g) e

-- ---- the identification
first-zero : (s : List ℕ) → take 8 s ≡ replicate 8 0 → (i : ℕ) → i < 8 → get_or s i 0 ≡ 0
first-zero s e i h = sym (get_or-take 8 s i 0 h) ∙ ap (λ (l : List ℕ). get_or l i 0) e ∙ get_or-replicate 8 i 0 0 h

number-zero : (s : List ℕ) → take 8 s ≡ replicate 8 0 → le_at 8 s 0 ≡ 0
unfolding le_at
number-zero s e =
    let z : (i : ℕ) → i < 8 → get_or s i 0 ≡ 0 = first-zero s e in
    rw (z 0 (omega arith), z 1 (omega arith), z 2 (omega arith), z 3 (omega arith), z 4 (omega arith), z 5 (omega arith), z 6 (omega arith), z 7 (omega arith))

zeros-identified : (s : List ℕ) → 64 ≤ length s → take 8 s ≡ replicate 8 0 → identified s ≡ refused 5 0
unfolding identified
zeros-identified s h e = sym (lt_no _ _ _ _ h (eq_no _ _ _ _ (λ q. let n = number-zero s e in omega arith) refl))

-- ---- the converter
module _ (y : Args) (p : Passing y) (room : 64 ≤ length y.image) (zeros : take 8 y.image ≡ replicate 8 0) where
  pub zeros-decided : decided y ≡ refused 5 0
  unfolding decided
  zeros-decided =
      then_on _ _ p.lent
      ∙ then_on _ _ (sym (eq_no _ _ _ _ (λ e. let h = p.size in omega arith) refl))
      ∙ then_on _ _ p.chosen
      ∙ then_on _ _ (sym (lt_no _ _ _ _ p.image refl))
      ∙ then_ends _ _ (zeros-identified y.image room zeros)

  pub zeros-answer : (out list : ℕ) → answer y out list ≡ refused 5 0
  unfolding answer
  zeros-answer out list = then_ends _ _ zeros-decided

  pub zeros-convert : (out list : List ℕ) (work : List (List ℕ)) → work_in work ≡ fine → (convert y out list work).answered ≡ refused 5 0
  unfolding convert
  zeros-convert out list work w =
      let e : and_then (work_in work) (λ _. answer y (length out) (length list)) ≡ refused 5 0 = then_on _ _ w ∙ zeros-answer (length out) (length list) in
      ap (λ v. (outcome y out list (work_left (and_then (work_in work) (λ _. lent_in y)) work) v).answered) e
