-- Laws of the lent slices: an identification and a history text that fit.
use Rattle.std.specs.Prelude.{ℕ, ◌≤◌, ◌<◌, List, [], ◌≡◌}
use Rattle.std.proofs.Math.Path.{refl, sym}
use Rattle.std.proofs.Common.{◌∙◌}
use Rattle.std.proofs.Math.ListN.{length}
use Rattle.base.specs.ChoiceLaws.{lt_yes, lt_no, eq_yes, eq_no}
use Rattle.base.specs.Checked.{refused, Verdict, fine}
use Rattle.base.specs.Field.{le_at}
use Rattle.plan.specs.Rules.{built_in}
use Rattle.result.specs.Result.{lent_in}
use Rattle.placing.specs.Decision.{untimed}

module _ (ident text : List ℕ) where
  abbrev lent : Verdict
  lent = lent_in (untimed [] 0 ident text built_in)

  pub lent-short : (length ident ≡ 64 → ⊥) → refused 1 0 ≡ lent
  unfolding lent_in
  lent-short h = eq_no _ _ _ _ h refl

  module _ (h : length ident ≡ 64) {a : ℕ} (e : a ≡ le_at 8 ident 0) where
    pub lent_unmarked : (a ≡ 2314885530820953165 → ⊥) → refused 1 0 ≡ lent
    unfolding lent_in
    lent_unmarked k = eq_yes _ _ _ _ h (eq_no _ _ _ _ (λ q. k (e ∙ q)) refl)

    module _ (k : a ≡ 2314885530820953165) {b : ℕ} (f : b ≡ le_at 8 ident 8) where
      pub lent_other : (b ≡ 2314885531088072244 → ⊥) → refused 1 0 ≡ lent
      unfolding lent_in
      lent_other l = eq_yes _ _ _ _ h (eq_yes _ _ _ _ (sym e ∙ k) (eq_no _ _ _ _ (λ q. l (f ∙ q)) refl))

      module _ (l : b ≡ 2314885531088072244) where
        pub lent-long : 4096 < length text → refused 1 0 ≡ lent
        unfolding lent_in
        lent-long m = eq_yes _ _ _ _ h (eq_yes _ _ _ _ (sym e ∙ k) (eq_yes _ _ _ _ (sym f ∙ l) (lt_yes _ _ _ _ m refl)))

        pub lent-fine : length text ≤ 4096 → fine ≡ lent
        unfolding lent_in
        lent-fine m = eq_yes _ _ _ _ h (eq_yes _ _ _ _ (sym e ∙ k) (eq_yes _ _ _ _ (sym f ∙ l) (lt_no _ _ _ _ m refl)))
