-- An answer that is as said, or a refusal with one of the numbers listed; and two answers, the one with closer limits refusing where the other needn't.
use Rattle.std.specs.Prelude.{ℕ, List, ◌≡◌, refl}
use Rattle.std.proofs.Common.{sym, subst}
use Rattle.base.specs.Checked.{Checked, ok, refused, and_then}
use Rattle.base.specs.CheckedLaws.{refused≢ok, ok_same}
use Rattle.result.specs.Member.{In}

-- a value of which P holds, or a refusal with a number of ns
pub data Gives {A : Type 0} (ns : List ℕ) (P : A → Type 0) : Checked A → Type 0 where
  gives : {a : A} → P a → Gives ns P (ok a)
  stops : {n p : ℕ} → In n ns → Gives ns P (refused n p)

-- step by step
pub gives_then : {A B : Type 0} {ns : List ℕ} {P : A → Type 0} {Q : B → Type 0} {v : Checked A} (f : A → Checked B) → Gives ns P v
    → ((a : A) → P a → Gives ns Q (f a)) → Gives ns Q (and_then v f)
gives_then f (gives {a} h) k = k a h
gives_then f (stops i) k = stops i

pub gives_mapped : {A : Type 0} {ns : List ℕ} {P Q : A → Type 0} {v : Checked A} → Gives ns P v → ((a : A) → P a → Q a) → Gives ns Q v
gives_mapped (gives {a} h) k = gives (k a h)
gives_mapped (stops i) k = stops i

-- among more numbers
pub gives_more : {A : Type 0} {ns ms : List ℕ} {P : A → Type 0} {v : Checked A} → ((n : ℕ) → In n ns → In n ms) → Gives ns P v → Gives ms P v
gives_more k (gives h) = gives h
gives_more k (stops {n} i) = stops (k n i)

-- what was answered
number_same : {A : Type 0} {n m p q : ℕ} → ◌≡◌ {A = Checked A} (refused n p) (refused m q) → n ≡ m
number_same e = cc

pub gives-number : {A : Type 0} {ns : List ℕ} {P : A → Type 0} {v : Checked A} (n p : ℕ) → Gives ns P v → v ≡ refused n p → In n ns
gives-number n p (gives h) e = absurd (ok≢refused e)
  where
    ok≢refused : {A : Type 0} {x : A} {n p : ℕ} → ◌≡◌ {A = Checked A} (ok x) (refused n p) → ⊥
    ok≢refused e = refused≢ok (sym e)
gives-number {ns} n p (stops i) e = subst (λ (m : ℕ). In m ns) (number_same e) i

pub gives_value : {A : Type 0} {ns : List ℕ} {P : A → Type 0} {v : Checked A} (a : A) → Gives ns P v → v ≡ ok a → P a
gives_value {P} a (gives h) e = subst P (ok_same e) h
gives_value a (stops i) e = absurd (refused≢ok e)

-- ---- v is w, or refuses with a number of ns
pub data Less {A : Type 0} (ns : List ℕ) (w : Checked A) : Checked A → Type 0 where
  alike : Less ns w w
  sooner : {n p : ℕ} → In n ns → Less ns w (refused n p)

pub less_then : {A B : Type 0} {ns : List ℕ} {v w : Checked A} (f g : A → Checked B) → Less ns w v → ((a : A) → Less ns (g a) (f a))
    → Less ns (and_then w g) (and_then v f)
less_then {A} {B} {ns} {v} f g alike k = go v
  where
    go : (u : Checked A) → Less ns (and_then u g) (and_then u f)
    go (ok a) = k a
    go (refused n p) = alike
less_then f g (sooner i) k = sooner i

pub less_gives : {A : Type 0} {ns : List ℕ} {v : Checked A} (a : A) (w : Checked A) → Less ns w v → w ≡ ok a → Gives ns (λ (b : A). b ≡ a) v
less_gives {ns} a w alike e = rw e (gives refl)
less_gives a w (sooner i) e = stops i
