-- Sums over lists without repetition: the sum over some members of a list is at most that over all.
use Prim.{Unit}
use Rattle.std.specs.Prelude.{ℕ, ◌+◌, ◌≤◌, List, [], ◌∷◌, ◌++◌, Bool, true, false, ◌≡◌, refl, eqb}
use Rattle.std.proofs.Common.{sym, subst, ◌∙◌, arith, eqb-true}
use Rattle.std.proofs.lemmas.Bool.{eqb-false}
use Rattle.base.specs.Choice.{pick}
use Rattle.result.specs.Member.{In, here, there}

-- the sum of a number for each
unfoldable pub sum : (ℕ → ℕ) → List ℕ → ℕ
sum w [] = 0
sum w (a ∷ as') = w a + sum w as'

-- no two are the same
unfoldable pub Distinct : List ℕ → Type 0
Distinct [] = Unit {0}
Distinct (a ∷ as') = ((b : ℕ) → In b as' → a ≡ b → ⊥) × Distinct as'

pub sum-append : (w : ℕ → ℕ) (as' bs : List ℕ) → sum w (as' ++ bs) ≡ sum w as' + sum w bs
unfolding sum
sum-append w [] bs = omega arith
sum-append w (a ∷ as') bs = omega (arith, sum-append w as' bs)

pub sum_same : (v w : ℕ → ℕ) (as' : List ℕ) → ((a : ℕ) → In a as' → v a ≡ w a) → sum v as' ≡ sum w as'
unfolding sum
sum_same v w [] h = refl
sum_same v w (a ∷ as') h = omega (arith, h a here, sum_same v w as' (λ b i. h b (there i)))

-- ---- without the first a
remove : ℕ → List ℕ → List ℕ
remove a [] = []
remove a (b ∷ bs) = pick (eqb b a) bs (b ∷ remove a bs)

pub in_nil : {a : ℕ} {P : Type 0} → In a [] → P
in_nil = elim [ ]

pub in_cases : {a b : ℕ} {bs : List ℕ} {P : Type 0} → In a (b ∷ bs) → (a ≡ b → P) → (In a bs → P) → P
in_cases here f g = f refl
in_cases (there i) f g = g i

sum_remove : (w : ℕ → ℕ) (a : ℕ) (bs : List ℕ) → In a bs → sum w bs ≡ w a + sum w (remove a bs)
unfolding sum remove
sum_remove w a [] i = in_nil i
sum_remove w a (b ∷ bs) i = go (eqb b a) refl (λ j. sum_remove w a bs j) i
  where
    go : (t : Bool) → eqb b a ≡ t → (In a bs → sum w bs ≡ w a + sum w (remove a bs)) → In a (b ∷ bs)
        → w b + sum w bs ≡ w a + sum w (pick t bs (b ∷ remove a bs))
    go true q f j = rw (eqb-true b a q)
    go false q f j = in_cases j (λ e. absurd (eqb-false b a q (sym e))) (λ k. omega (arith, f k))

in_remove : (a c : ℕ) (bs : List ℕ) → In c bs → (a ≡ c → ⊥) → In c (remove a bs)
unfolding remove
in_remove a c [] i n = in_nil i
in_remove a c (b ∷ bs) i n = go (eqb b a) refl (λ j. in_remove a c bs j n) i
  where
    go : (t : Bool) → eqb b a ≡ t → (In c bs → In c (remove a bs)) → In c (b ∷ bs) → In c (pick t bs (b ∷ remove a bs))
    go true q f j = in_cases j (λ e. absurd (n (sym (eqb-true b a q) ∙ sym e))) (λ k. k)
    go false q f j = in_cases j (λ e. subst (λ (x : ℕ). In x (b ∷ remove a bs)) (sym e) here) (λ k. there (f k))

-- members without repetition
pub sum-within : (w : ℕ → ℕ) (ns bs : List ℕ) → Distinct ns → ((n : ℕ) → In n ns → In n bs) → sum w ns ≤ sum w bs
unfolding sum Distinct
sum-within w [] bs d h = omega arith
sum-within w (n ∷ ns) bs d h =
    let more = sum-within w ns (remove n bs) d.1 (λ m i. in_remove n m bs (h m (there i)) (d.0 m i)) in
    omega (arith, sum_remove w n bs (h n here))

-- ---- appended lists
pub in_front_lem : {a : ℕ} (as' bs : List ℕ) → In a as' → In a (as' ++ bs)
in_front_lem [] bs i = in_nil i
in_front_lem (x ∷ as') bs here = here
in_front_lem (x ∷ as') bs (there i) = there (in_front_lem as' bs i)

pub in_behind : {a : ℕ} (as' bs : List ℕ) → In a bs → In a (as' ++ bs)
in_behind [] bs i = i
in_behind (x ∷ as') bs i = there (in_behind as' bs i)

pub in_parts : {a : ℕ} {P : Type 0} (as' bs : List ℕ) → In a (as' ++ bs) → (In a as' → P) → (In a bs → P) → P
in_parts [] bs i f g = g i
in_parts (x ∷ as') bs here f g = f here
in_parts (x ∷ as') bs (there i) f g = in_parts as' bs i (λ j. f (there j)) g

pub distinct_append : (as' bs : List ℕ) → Distinct as' → Distinct bs → ((a : ℕ) → In a as' → In a bs → ⊥) → Distinct (as' ++ bs)
unfolding Distinct
distinct_append [] bs d e n = e
distinct_append (a ∷ as') bs d e n = (
  λ b i q. in_parts as' bs i (λ j. d.0 b j q) (λ j. n a here (subst (λ (x : ℕ). In x bs) (sym q) j)),
  distinct_append as' bs d.1 e (λ b i j. n b (there i) j),
)
