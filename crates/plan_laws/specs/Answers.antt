-- The way back through `and_then` and the choices, for an answer that is `ok`.
use Rattle.std.specs.Prelude.{ℕ, ◌≡◌, refl, Bool, true, false, eqb}
use Rattle.std.proofs.Common.{◌∙◌, arith, eqb-true}
use Rattle.std.proofs.lemmas.Bool.{eqb-false}
use Rattle.base.specs.Choice.{pick, if_eq}
use Rattle.base.specs.ChoiceLaws.{eq_yes, eq_no}
use Rattle.base.specs.Checked.{Checked, ok, refused, and_then}
pub use Rattle.base.specs.CheckedLaws.{refused≢ok, ok_same, then_fine}

pub true≢false : true ≡ false → ⊥
true≢false e = let z : ◌≡◌ {A = ℕ} 0 1 = cc in omega arith

-- the value in between, where the whole is `ok`
pub with_ok : {A B R : Type 0} (v : Checked A) (f : A → Checked B) {y : B} → and_then v f ≡ ok y → ((x : A) → v ≡ ok x → f x ≡ ok y → R) → R
with_ok (ok x) f e k = k x refl e
with_ok (refused n p) f e k = absurd (refused≢ok e)

-- a refusal where a test holds, else what follows
pub pick_no : {A : Type 0} (t : Bool) (n p : ℕ) (v : Checked A) {y : A} → pick t (refused n p) v ≡ ok y → (t ≡ false) × (v ≡ ok y)
pick_no true n p v e = absurd (refused≢ok e)
pick_no false n p v e = (refl, e)

-- ---- both ways of a choice
pub eq_cases : {A R : Type 0} (m n : ℕ) (a b : A) {r : A} → if_eq m n a b ≡ r → (m ≡ n → a ≡ r → R) → ((m ≡ n → ⊥) → b ≡ r → R) → R
eq_cases {R = R} m n a b {r} e y z = go (eqb m n) refl
  where
    go : (t : Bool) → eqb m n ≡ t → R
    go true q = let h = eqb-true m n q in y h (eq_yes m n a b h refl ∙ e)
    go false q = let h = eqb-false m n q in z h (eq_no m n a b h refl ∙ e)

pub pick_cases : {A R : Type 0} (t : Bool) (a b : A) {r : A} → pick t a b ≡ r → (t ≡ true → a ≡ r → R) → (t ≡ false → b ≡ r → R) → R
pick_cases true a b e y z = y refl e
pick_cases false a b e y z = z refl e

-- any test holds or not
pub or_not : {R : Type 0} (m n : ℕ) → (m ≡ n → R) → ((m ≡ n → ⊥) → R) → R
or_not {R} m n y z = go (eqb m n) refl
  where
    go : (t : Bool) → eqb m n ≡ t → R
    go true q = y (eqb-true m n q)
    go false q = z (eqb-false m n q)
