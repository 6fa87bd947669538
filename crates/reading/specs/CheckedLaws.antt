-- The laws of checks that follow each other.
use Rattle.std.specs.Prelude.{ℕ, ◌≡◌, refl}
use Rattle.std.proofs.Common.{arith}
use Rattle.base.specs.Checked.{Checked, ok, refused, and_then, Verdict}

pub refused≢ok : {A : Type 0} {n p : ℕ} {a : A} → ◌≡◌ {A = Checked A} (refused n p) (ok a) → ⊥
refused≢ok e = let z : ◌≡◌ {A = ℕ} 0 1 = cc in omega arith

pub ok≢refused : {A : Type 0} {n p : ℕ} {a : A} → ◌≡◌ {A = Checked A} (ok a) (refused n p) → ⊥
ok≢refused e = let z : ◌≡◌ {A = ℕ} 0 1 = cc in omega arith

pub ok_same : {A : Type 0} {a b : A} → ◌≡◌ {A = Checked A} (ok a) (ok b) → a ≡ b
ok_same e = cc

pub then_assoc : {A B C : Type 0} (v : Checked A) (f : A → Checked B) (g : B → Checked C)
    → and_then (and_then v f) g ≡ and_then v (λ u. and_then (f u) g)
then_assoc (ok a) f g = refl
then_assoc (refused n p) f g = refl

pub then_ok : {A B : Type 0} (v : Verdict) (w : A) (f : A → Checked B) → and_then (and_then v (λ _. ok w)) f ≡ and_then v (λ _. f w)
then_ok (ok u) w f = refl
then_ok (refused n p) w f = refl

-- two checks that leave w: a refusal is that of either, and where there is none both passed
module _ {A B : Type 0} (w : A) (st : B) where
  pub both_stop : (v c : Verdict) {n p : ℕ} → ◌≡◌ {A = Checked A} (refused n p) (and_then v (λ _. and_then c (λ _. ok w)))
      → ◌≡◌ {A = Checked B} (and_then v (λ _. and_then c (λ _. ok st))) (refused n p)
  both_stop (ok u) (ok t) e = absurd (refused≢ok e)
  both_stop (ok u) (refused y q) e = cc
  both_stop (refused y q) c e = cc

  pub both_pass : {w' : A} (v c : Verdict) → ◌≡◌ {A = Checked A} (ok w') (and_then v (λ _. and_then c (λ _. ok w)))
      → (w' ≡ w) × (◌≡◌ {A = Checked B} (and_then v (λ _. and_then c (λ _. ok st))) (ok st))
  both_pass (ok u) (ok t) e = (ok_same e, refl)
  both_pass (ok u) (refused y q) e = absurd (ok≢refused e)
  both_pass (refused y q) c e = absurd (ok≢refused e)
