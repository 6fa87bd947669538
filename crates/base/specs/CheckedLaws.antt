-- The laws of `Checked`: a refusal is no value, and both parts of what was accepted were accepted.
use Rattle.std.specs.Prelude.{ℕ, ◌≡◌, refl}
use Prim.{Unit, tt}
use Rattle.std.proofs.Common.{arith}
use Rattle.base.specs.Checked.{Checked, ok, refused, and_then, Verdict, fine}

pub refused≢ok : {A : Type 0} {n p : ℕ} {x : A} → ◌≡◌ {A = Checked A} (refused n p) (ok x) → ⊥
refused≢ok e = let z : ◌≡◌ {A = ℕ} 0 1 = cc in omega arith

pub ok_same : {A : Type 0} {x y : A} → ◌≡◌ {A = Checked A} (ok x) (ok y) → x ≡ y
ok_same e = cc

pub then_ok : {A B : Type 0} (v : Checked A) (f : A → Checked B) {y : B} → and_then v f ≡ ok y → (x : A) × (v ≡ ok x) × (f x ≡ ok y)
then_ok (ok x) f e = (x, refl, e)
then_ok (refused n p) f e = absurd (refused≢ok e)

pub then_fine : {B : Type 0} (v : Verdict) (f : Unit {0} → Checked B) {y : B} → and_then v f ≡ ok y → (v ≡ fine) × (f tt ≡ ok y)
then_fine (ok x) f e = (refl, e)
then_fine (refused n p) f e = absurd (refused≢ok e)
