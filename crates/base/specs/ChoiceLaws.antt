-- The way through a definition by cases: at each test, whether it held and what is left to show.
use Rattle.std.specs.Prelude.{ℕ, ◌≤◌, ◌<◌, ◌≡◌, refl, Bool, true, false, ltb, leb, eqb}
use Rattle.std.proofs.Common.{◌∙◌, lt-ltb, le-ltb, le-leb, eq-eqb, ne_eqb, ltb-true, ltb-false, leb-true, leb-false, eqb-true}
use Rattle.std.proofs.lemmas.Bool.{lt-leb, eqb-false}
use Rattle.base.specs.Choice.{if_lt, if_le, if_eq}

module _ {A : Type 0} {r : A} (m n : ℕ) (a b : A) where
  pub lt_yes : m < n → r ≡ a → r ≡ if_lt m n a b
  unfolding if_lt
  lt_yes h e = rw (lt-ltb m n h) e

  pub lt_no : n ≤ m → r ≡ b → r ≡ if_lt m n a b
  unfolding if_lt
  lt_no h e = rw (le-ltb m n h) e

  pub le_yes : m ≤ n → r ≡ a → r ≡ if_le m n a b
  unfolding if_le
  le_yes h e = rw (le-leb m n h) e

  pub le_no : n < m → r ≡ b → r ≡ if_le m n a b
  unfolding if_le
  le_no h e = rw (lt-leb m n h) e

  pub eq_yes : m ≡ n → r ≡ a → r ≡ if_eq m n a b
  unfolding if_eq
  eq_yes h e = rw (eq-eqb m n h) e

  pub eq_no : (m ≡ n → ⊥) → r ≡ b → r ≡ if_eq m n a b
  unfolding if_eq
  eq_no h e = rw (ne_eqb m n h) e

-- The way back: where the choice is not its first answer, the test did not hold.
module _ {A : Type 0} {r : A} (m n : ℕ) (a b : A) where
  pub lt_back : if_lt m n a b ≡ r → (a ≡ r → ⊥) → (n ≤ m) × (b ≡ r)
  lt_back e nay = go (ltb m n) refl
    where
      go : (t : Bool) → ltb m n ≡ t → (n ≤ m) × (b ≡ r)
      go true q = absurd (nay (lt_yes m n a b (ltb-true m n q) refl ∙ e))
      go false q = let h = ltb-false m n q in (h, lt_no m n a b h refl ∙ e)

  pub lt_first : if_lt m n a b ≡ r → (b ≡ r → ⊥) → (m < n) × (a ≡ r)
  lt_first e nay = go (ltb m n) refl
    where
      go : (t : Bool) → ltb m n ≡ t → (m < n) × (a ≡ r)
      go true q = let h = ltb-true m n q in (h, lt_yes m n a b h refl ∙ e)
      go false q = absurd (nay (lt_no m n a b (ltb-false m n q) refl ∙ e))

  pub eq_first : if_eq m n a b ≡ r → (b ≡ r → ⊥) → (m ≡ n) × (a ≡ r)
  eq_first e nay = go (eqb m n) refl
    where
      go : (t : Bool) → eqb m n ≡ t → (m ≡ n) × (a ≡ r)
      go true q = let h = eqb-true m n q in (h, eq_yes m n a b h refl ∙ e)
      go false q = absurd (nay (eq_no m n a b (eqb-false m n q) refl ∙ e))

  pub le-first : if_le m n a b ≡ r → (b ≡ r → ⊥) → (m ≤ n) × (a ≡ r)
  le-first e nay = go (leb m n) refl
    where
      go : (t : Bool) → leb m n ≡ t → (m ≤ n) × (a ≡ r)
      go true q = let h = leb-true m n q in (h, le_yes m n a b h refl ∙ e)
      go false q = absurd (nay (le_no m n a b (leb-false m n q) refl ∙ e))
