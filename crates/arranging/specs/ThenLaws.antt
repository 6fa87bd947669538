-- Laws of what follows a check.
use Rattle.std.specs.Prelude.{ℕ, ◌≡◌, refl}
use Rattle.std.proofs.Common.{sym, ap}
use Rattle.base.specs.Checked.{Checked, ok, refused, and_then, Verdict}
use Rattle.base.specs.CheckedLaws.{refused≢ok, ok_same}

pub then_then : {A B C : Type 0} (x : Checked A) (f : A → Checked B) (g : B → Checked C) → and_then (and_then x f) g ≡ and_then x (λ v. and_then (f v) g)
then_then (ok v) f g = refl
then_then (refused n p) f g = refl

pub then_same : {A B : Type 0} (v : Checked A) (f g : A → Checked B) → ((x : A) → f x ≡ g x) → and_then v f ≡ and_then v g
then_same (ok x) f g e = e x
then_same (refused a b) f g e = refl

-- the first of several is refused
pub then_through : {A B C D : Type 0} (x : Checked A) (f : A → Checked B) (g : A → B → Checked C) (k : C → Checked D) {a b : ℕ} → and_then x f ≡ refused a b
    → and_then (and_then x (λ v. and_then (f v) (g v))) k ≡ refused a b
then_through (ok v) f g k e = rw e
then_through {A} {B} {C} {D} (refused n p) f g k e = ap (λ (v : Checked B). and_then {B = D} v (λ _. refused 0 0)) e

-- what is made of a value that passed, or didn't
pub then_made : {A B : Type 0} (v : Checked A) (r : A → Verdict) (f : A → B) {x : A} → and_then v (λ t. and_then (r t) (λ _. ok t)) ≡ ok x
    → and_then v (λ t. and_then (r t) (λ _. ok (f t))) ≡ ok (f x)
then_made {A} {B} (ok t) r f {x} e = go (r t) e
  where
    go : (y : Verdict) → and_then {B = A} y (λ _. ok t) ≡ ok x → and_then {B = B} y (λ _. ok (f t)) ≡ ok (f x)
    go (ok i) q = ap (λ (z : A). ok (f z)) (ok_same q)
    go (refused n p) q = absurd (refused≢ok q)
then_made (refused n p) r f e = absurd (refused≢ok e)

pub then_unmade : {A B : Type 0} (v : Checked A) (r : A → Verdict) (f : A → B) {a b : ℕ} → and_then v (λ t. and_then (r t) (λ _. ok t)) ≡ refused a b
    → and_then v (λ t. and_then (r t) (λ _. ok (f t))) ≡ refused a b
then_unmade {A} {B} (ok t) r f {a} {b} e = go (r t) e
  where
    go : (y : Verdict) → and_then {B = A} y (λ _. ok t) ≡ refused a b → and_then {B = B} y (λ _. ok (f t)) ≡ refused a b
    go (ok i) q = absurd (refused≢ok (sym q))
    go (refused n p) q = ap (λ (z : Checked A). and_then {B = B} z (λ _. refused 0 0)) q
then_unmade {A} {B} (refused n p) r f e = ap (λ (z : Checked A). and_then {B = B} z (λ _. refused 0 0)) e
