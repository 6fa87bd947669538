-- Slices long enough, then what planning gives; after a refusal every word is zero.
use native.Mathlib.Omega.{arith}
use mathlib.Core.Path.{refl, sym, ◌∙◌}
use Rattle.base.specs.ChoiceLaws.{lt_yes, lt_no}
use Rattle.planning.specs.Answer.{plan_into}
use Rattle.planning.specs.AnswerLaws.{plan_refused, plan_done}
use borrow.Author.Rules.{rules}
use Rattle.planning.proofs.recording.plan.Goals.{then-source-lt4096-via-then-source-lt4096, then-source-lt4096-via-else-source-lt4096+then-fragments-lt3072, then-source-lt4096-via-else-source-lt4096+else-fragments-lt3072+then-columns-lt6144}
use Rattle.planning.proofs.recording.plan.Goals as goal

pub returns-then-source-lt4096 : goal.returns-then-source-lt4096
unfolding plan_into
returns-then-source-lt4096 c =
    elim c.then-source-lt4096.branch [
      | then-source-lt4096-via-then-source-lt4096 w ↦ λ _. lt_yes _ _ _ _ (omega arith) refl
      | then-source-lt4096-via-else-source-lt4096+then-fragments-lt3072 w ↦ λ _. lt_no _ _ _ _ (omega arith) (lt_yes _ _ _ _ (omega arith) refl)
      | then-source-lt4096-via-else-source-lt4096+else-fragments-lt3072+then-columns-lt6144 w ↦ λ _. lt_no _ _ _ _ (omega arith) (lt_no _ _ _ _ (omega arith) (lt_yes _ _ _ _ (omega arith) refl))
    ]

pub returns-then-is_err : goal.returns-then-is_err
returns-then-is_err c = λ short.
    plan_refused _ _ _ _ _ _ (omega arith) (omega arith) (omega arith)
    c.plan_all-answer.new.source c.plan_all-answer.new.fragments c.plan_all-answer.new.columns
    _ (c.plan_all-answer.ensures short) (sym c.is_err.ensures.value ∙ c.if-is_err.true)
    (search rules) (search rules) (search rules)
    c.clear.ensures c.clear-then-is_err.ensures c.clear-then-is_err-2.ensures

pub returns-else-is_err : goal.returns-else-is_err
returns-else-is_err c = λ short.
    plan_done _ _ _ _ _ _ (omega arith) (omega arith) (omega arith)
    c.plan_all-answer.new.source c.plan_all-answer.new.fragments c.plan_all-answer.new.columns
    _ (c.plan_all-answer.ensures short) (sym c.is_err.ensures.value ∙ c.if-is_err.false)
