-- Membership and the number of occurrences in lists.
use Rattle.std.specs.Prelude.{ℕ, suc, ◌+◌, ◌≤◌, List, [], ◌∷◌, ◌++◌, ◌≡◌, refl, Bool, true, false, ◌⊎◌, length, eqb}
use Rattle.std.proofs.Common.{sym, ap, ◌∙◌, subst, inl, inr, arith, eqb-true}
use Rattle.std.proofs.lemmas.Bool.{eqb-false}
use Rattle.base.specs.Choice.{if_eq}
use Rattle.base.specs.ChoiceLaws.{eq_yes, eq_no}
use Rattle.result.specs.Guarantee.{In, here, there}

-- ---- members

pub in_left : {A : Type 0} {a : A} {l : List A} (m : List A) → In a l → In a (l ++ m)
in_left m here = here
in_left m (there i) = there (in_left m i)

pub in_right : {A : Type 0} {a : A} (l : List A) {m : List A} → In a m → In a (l ++ m)
in_right [] i = i
in_right (b ∷ l) i = there (in_right l i)

pub in_cases : {A : Type 0} {a : A} (l : List A) {m : List A} → In a (l ++ m) → In a l ⊎ In a m
in_cases [] i = inr i
in_cases (b ∷ l) here = inl here
in_cases {a = a} (b ∷ l) {m} (there i) = go (in_cases l i)
  where
    go : In a l ⊎ In a m → In a (b ∷ l) ⊎ In a m
    go (inl j) = inl (there j)
    go (inr j) = inr j

-- the only member of a list of one
pub in_one : {A : Type 0} {a b : A} → In a (b ∷ []) → a ≡ b
in_one {A = A} {a = a} {b = b} (there x3) = elim x3 [ ]
in_one here = refl

in_length : {A : Type 0} {a : A} {l : List A} → In a l → 1 ≤ length l
in_length here = omega arith
in_length (there i) = omega (arith, in_length i)

pub in_none : {A : Type 0} {a : A} → In a [] → ⊥
in_none i = omega (arith, in_length i)

-- ---- one number against another: 1 where they are equal, else 0
unfoldable pub same : ℕ → ℕ → ℕ
same b a = if_eq b a 1 0

pub same_yes : (b a : ℕ) → b ≡ a → same b a ≡ 1
unfolding same
same_yes b a e = sym (eq_yes b a 1 0 e refl)

pub same_no : (b a : ℕ) → (b ≡ a → ⊥) → same b a ≡ 0
unfolding same
same_no b a n = sym (eq_no b a 1 0 n refl)

-- how often a stands in the list
unfoldable pub occurs : ℕ → List ℕ → ℕ
occurs a [] = 0
occurs a (b ∷ l) = same b a + occurs a l

pub occurs-append : (a : ℕ) (l m : List ℕ) → occurs a (l ++ m) ≡ occurs a l + occurs a m
unfolding occurs
occurs-append a [] m = omega arith
occurs-append a (b ∷ l) m = omega (arith, occurs-append a l m)

pub occurs_in : (a : ℕ) (l : List ℕ) → In a l → 1 ≤ occurs a l
unfolding occurs
occurs_in a [] x' = elim x' [ ]
occurs_in a (b ∷ l) here = omega (arith, same_yes a a refl)
occurs_in a (b ∷ l) (there i) = omega (arith, occurs_in a l i)

pub in_occurs : (a : ℕ) (l : List ℕ) → 1 ≤ occurs a l → In a l
unfolding occurs
in_occurs a [] h = absurd (omega arith)
in_occurs a (b ∷ l) h = go (in_occurs a l) (eqb b a) refl
  where
    go : (1 ≤ occurs a l → In a l) → (t : Bool) → eqb b a ≡ t → In a (b ∷ l)
    go ih true q = subst (λ (c : ℕ). In a (c ∷ l)) (sym (eqb-true b a q)) here
    go ih false q = there (ih (omega (arith, same_no b a (eqb-false b a q))))

-- ---- a list with no more occurrences of anything is no longer

-- without the first a
unfoldable pub without : ℕ → List ℕ → List ℕ
without a [] = []
without a (b ∷ l) = let rest = b ∷ without a l in if_eq b a l rest

without-length : (a : ℕ) (l : List ℕ) → 1 ≤ occurs a l → suc (length (without a l)) ≡ length l
unfolding without occurs
without-length a [] h = absurd (omega arith)
without-length a (b ∷ l) h = go (without-length a l) (eqb b a) refl
  where
    go : (1 ≤ occurs a l → suc (length (without a l)) ≡ length l) → (t : Bool) → eqb b a ≡ t → suc (length (without a (b ∷ l))) ≡ length (b ∷ l)
    go ih true q = ap (λ (m : List ℕ). suc (length m)) (sym (eq_yes b a l (b ∷ without a l) (eqb-true b a q) refl))
    go ih false q =
        let n = eqb-false b a q in
        ap (λ (m : List ℕ). suc (length m)) (sym (eq_no b a l (b ∷ without a l) n refl)) ∙ ap suc (ih (omega (arith, same_no b a n)))

without-occurs : (a c : ℕ) (l : List ℕ) → 1 ≤ occurs a l → occurs c l ≡ same a c + occurs c (without a l)
unfolding without occurs
without-occurs a c [] h = absurd (omega arith)
without-occurs a c (b ∷ l) h = go (without-occurs a c l) (eqb b a) refl
  where
    go : (1 ≤ occurs a l → occurs c l ≡ same a c + occurs c (without a l)) → (t : Bool) → eqb b a ≡ t
        → occurs c (b ∷ l) ≡ same a c + occurs c (without a (b ∷ l))
    go ih true q =
        let e = eqb-true b a q in
        rw (← eq_yes b a l (b ∷ without a l) e refl, e)
    go ih false q =
        let n = eqb-false b a q in
        rw (← eq_no b a l (b ∷ without a l) n refl) (omega (arith, ih (omega (arith, same_no b a n))))

pub no_longer : (l m : List ℕ) → ((a : ℕ) → occurs a l ≤ occurs a m) → length l ≤ length m
unfolding occurs
no_longer [] m h = omega arith
no_longer (a ∷ l) m h =
    let one : 1 ≤ occurs a m = omega (arith, h a, same_yes a a refl) in
    omega (arith, no_longer l (without a m) (λ c. omega (arith, h c, without-occurs a c m one)), without-length a m one)
