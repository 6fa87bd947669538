-- What the search found is below the count or not; each way answers as the definition does.
use mathlib.Core.Path.{refl}
use native.Mathlib.Omega.{arith}
use Rattle.base.specs.ChoiceLaws.{eq_yes, eq_no}
use Rattle.plan.specs.Table.{built_in_for}
use Rattle.choices.specs.TableLaws.{treatment_omit, treatment-listed, treatment_unlisted}
use Rattle.choices.proofs.treatment_of.Goals as goal

pub returns-then-v-eq1 : goal.returns-then-v-eq1
returns-then-v-eq1 c =
    treatment_omit _ _ c.field_at-n.ensures
    c.entry_of-k.ensures c.if-k-n.true c.field_at-v.ensures
    c.if-v-eq1.true

pub returns-then-k-n : goal.returns-then-k-n
returns-then-k-n c =
    treatment-listed _ _ c.field_at-n.ensures
    c.entry_of-k.ensures c.if-k-n.true c.field_at-v.ensures
    c.if-v-eq1.false

pub returns-in-4 : goal.returns-in-4
unfolding built_in_for
returns-in-4 c = treatment_unlisted _ _ c.field_at-n.ensures c.entry_of-k.ensures c.if-k-n.false (eq_yes _ _ _ _ c.in-4.is refl)

pub returns-in-5 : goal.returns-in-5
unfolding built_in_for
returns-in-5 c =
    treatment_unlisted _ _ c.field_at-n.ensures c.entry_of-k.ensures c.if-k-n.false (eq_no _ _ _ _ (λ e. omega arith) (eq_yes _ _ _ _ c.in-5.is refl))

pub returns-in_default : goal.returns-in_default
unfolding built_in_for
returns-in_default c =
    treatment_unlisted _ _ c.field_at-n.ensures c.entry_of-k.ensures c.if-k-n.false (eq_no _ _ _ _ (λ e. omega arith) (eq_no _ _ _ _ (λ e. omega arith) refl))
