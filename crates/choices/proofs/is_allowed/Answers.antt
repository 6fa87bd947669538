-- Each test is one of the definition.
use mathlib.Core.Path.{refl}
use native.Mathlib.Omega.{arith}
use Rattle.base.specs.ChoiceLaws.{eq_yes, eq_no}
use Rattle.plan.specs.Table.{is_allowed}
use Rattle.choices.specs.TableLaws.{differs}
use Rattle.choices.proofs.is_allowed.Goals as goal

pub returns-in-2 : goal.returns-in-2
unfolding is_allowed
returns-in-2 c = eq_yes _ _ _ _ c.in-2.is refl

pub returns-in-3 : goal.returns-in-3
unfolding is_allowed
returns-in-3 c = eq_no _ _ _ _ (λ e. omega arith) (eq_yes _ _ _ _ c.in-3.is refl)

pub returns-in-5 : goal.returns-in-5
unfolding is_allowed
returns-in-5 c = eq_no _ _ _ _ (λ e. omega arith) (eq_no _ _ _ _ (λ e. omega arith) (eq_yes _ _ _ _ c.in-5.is (differs _ _)))

pub returns-in-6 : goal.returns-in-6
unfolding is_allowed
returns-in-6 c =
    eq_no _ _ _ _ (λ e. omega arith) (eq_no _ _ _ _ (λ e. omega arith) (eq_no _ _ _ _ (λ e. omega arith) (eq_yes _ _ _ _ c.in-6.is (differs _ _))))

pub returns-in_default : goal.returns-in_default
unfolding is_allowed
returns-in_default c =
    eq_no _ _ _ _ (λ e. omega arith)
    (eq_no _ _ _ _ (λ e. omega arith) (eq_no _ _ _ _ (λ e. omega arith) (eq_no _ _ _ _ (λ e. omega arith) refl)))
