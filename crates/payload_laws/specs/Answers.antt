-- What is known of checks that passed: the way back through `and_then` and `pick`.
use Rattle.std.specs.Prelude.{ℕ, Bool, true, false, ◌≡◌, refl, ◌⊎◌, eqb}
use Rattle.std.proofs.Common.{◌∙◌, arith, inl, inr, eqb-true}
use Rattle.std.proofs.lemmas.Bool.{eqb-false}
use Rattle.base.specs.Choice.{pick, if_eq}
use Rattle.base.specs.ChoiceLaws.{eq_yes, eq_no}
use Rattle.base.specs.Checked.{refused, Verdict, fine}
pub use Rattle.base.specs.CheckedLaws.{refused≢ok, ok_same, then_ok, then_fine}

pub false≢true : ◌≡◌ {A = Bool} false true → ⊥
false≢true e = let z : ◌≡◌ {A = ℕ} 0 1 = cc in omega arith

-- a test that refuses did not hold
pub passed : (b : Bool) (n p : ℕ) → pick {A = Verdict} b (refused n p) fine ≡ fine → b ≡ false
passed true n p e = absurd (refused≢ok e)
passed false n p e = refl

-- a check made under a test
pub under : (b : Bool) (v : Verdict) → pick b v fine ≡ fine → b ≡ true → v ≡ fine
under true v e q = e
under false v e q = absurd (false≢true q)

-- ---- either way of a choice
module _ {A : Type 0} (m n : ℕ) (a b : A) {r : A} where
  pub eq_cases : if_eq m n a b ≡ r → ((m ≡ n) × (a ≡ r)) ⊎ ((m ≡ n → ⊥) × (b ≡ r))
  eq_cases e = go (eqb m n) refl
    where
      go : (t : Bool) → eqb m n ≡ t → ((m ≡ n) × (a ≡ r)) ⊎ ((m ≡ n → ⊥) × (b ≡ r))
      go true q = let h = eqb-true m n q in inl (h, eq_yes m n a b h refl ∙ e)
      go false q = let h = eqb-false m n q in inr (h, eq_no m n a b h refl ∙ e)
