-- What an accepted answer says of the checks and choices that it was made by.
use Prim.{Unit}
use Rattle.std.specs.Prelude.{ℕ, ◌+◌, ◌*◌, ◌≤◌, List, ◌≡◌, refl, Bool, true, false, length, eqb}
use Rattle.std.proofs.Common.{subst, ◌∙◌, eqb-true}
use Rattle.std.proofs.lemmas.Bool.{eqb-false}
use Rattle.base.specs.Choice.{pick, if_eq}
use Rattle.base.specs.ChoiceLaws.{eq_yes, eq_no, lt_back}
use Rattle.base.specs.Checked.{ok}
use Rattle.mdf.specs.Block.{size_at, links_at, header_in, length_in, most_bytes, whole_at}
pub use Rattle.base.specs.CheckedLaws.{refused≢ok, ok_same, then_ok}

-- a choice whose answers both have a property
pub by_eq : {A P : Type 0} {r : A} (m n : ℕ) (a b : A) → if_eq m n a b ≡ r → (a ≡ r → P) → (b ≡ r → P) → P
by_eq {A} {P} {r} m n a b e f g = go (eqb m n) refl
  where
    go : (t : Bool) → eqb m n ≡ t → P
    go true q = f (eq_yes m n a b (eqb-true m n q) refl ∙ e)
    go false q = g (eq_no m n a b (eqb-false m n q) refl ∙ e)

-- a property of both answers is one of the choice
pub on_eq : {A : Type 0} (P : A → Type 0) (m n : ℕ) (a b : A) → (m ≡ n → P a) → ((m ≡ n → ⊥) → P b) → P (if_eq m n a b)
on_eq P m n a b f g = go (eqb m n) refl
  where
    go : (t : Bool) → eqb m n ≡ t → P (if_eq m n a b)
    go true q = subst P (eq_yes m n a b (eqb-true m n q) refl) (f (eqb-true m n q))
    go false q = subst P (eq_no m n a b (eqb-false m n q) refl) (g (eqb-false m n q))

-- the second answer, where the first is none
pub eq_back : {A : Type 0} {r : A} (m n : ℕ) (a b : A) → if_eq m n a b ≡ r → (a ≡ r → ⊥) → b ≡ r
eq_back m n a b e nay = by_eq m n a b e (λ q. absurd (nay q)) (λ q. q)

pub by-pick : {A P : Type 0} {r : A} (t : Bool) (a b : A) → pick t a b ≡ r → (a ≡ r → P) → (b ≡ r → P) → P
by-pick true a b e f g = f e
by-pick false a b e f g = g e

pub pick_second : {A : Type 0} {r : A} (t : Bool) (a b : A) → pick t a b ≡ r → (a ≡ r → ⊥) → b ≡ r
pick_second true a b e nay = absurd (nay e)
pick_second false a b e nay = e

-- ---- a block that is read whole: header range, 8, 9, range
pub record Whole (s : List ℕ) (a : ℕ) : Type 0 where
  pub range : a + size_at s a ≤ length s
  pub within : 24 + 8 * links_at s a ≤ size_at s a
  pub short : size_at s a ≤ 268435456

pub whole_fits : (s : List ℕ) (a : ℕ) {u : Unit {0}} → whole_at s a ≡ ok u → Whole s a
unfolding whole_at length_in
whole_fits s a e =
    let h = then_ok (header_in s a) (λ _. length_in most_bytes s a) e in
    let b = lt_back _ _ _ _ h.2 refused≢ok in
    let c = lt_back _ _ _ _ b.1 refused≢ok in
    let d = lt_back _ _ _ _ c.1 refused≢ok in
    record { range = d.0; within = b.0; short = c.0 }
