-- What is left of the groups gives what all of them give.
use Rattle.planning.specs.PlannedLaws.{groups_begin, groups_end, groups_channel, groups_data, groups_refused, groups_on}
use mathlib.Core.Path.{refl}
use native.Mathlib.Omega.{arith}
use Rattle.fields.specs.AnswerLaws.{passed_on}
use borrow.Author.Rules.{rules as needs}
use Rattle.planning.proofs.planned.plan_noted.Goals.{then-mark-eq1+in_ok-so_far, else-mark-eq1+then-mark-ne0, else-mark-eq1+else-mark-ne0}
use Rattle.planning.proofs.planned.plan_noted.Goals as goal

pub loop-i-init : goal.loop-i-init
loop-i-init c = (refl, refl, groups_begin (omega arith))

pub returns-in_err-so_far : goal.returns-in_err-so_far
returns-in_err-so_far c = rw (passed_on _ _ c.from_residual.ensures) (groups_refused
    c.loop-i.invariant.2
    (omega arith)
    c.word-mark.ensures
    c.word-at.ensures
    c.if-mark-eq1.true
    c.word-records.ensures
    c.plan_group.ensures c.in_err-so_far.was)

pub loop-i-preserved : goal.loop-i-preserved
loop-i-preserved c =
    elim c.if-mark-eq1.branch [
      | then-mark-eq1+in_ok-so_far w ↦ rw (w.columns-is, w.fragments-is, w.g-is, w.d-is, w.so_far-is) (
        search needs,
        search needs,
        groups_on c.loop-i.invariant.2 (omega arith) c.word-mark.ensures c.word-at.ensures w.if-mark-eq1.true w.word-records.ensures w.plan_group.ensures w.in_ok-so_far.was,
      )
      | else-mark-eq1+then-mark-ne0 w ↦ rw (w.columns-is, w.fragments-is, w.g-is, w.d-is, w.so_far-is) (
        search needs,
        search needs,
        groups_data c.loop-i.invariant.2 (omega arith) c.word-mark.ensures c.word-at.ensures w.if-mark-ne0.true w.if-mark-eq1.false,
      )
      | else-mark-eq1+else-mark-ne0 w ↦ rw (w.columns-is, w.fragments-is, w.g-is, w.d-is, w.so_far-is) (
        search needs,
        search needs,
        groups_channel c.loop-i.invariant.2 (omega arith) c.word-mark.ensures c.word-at.ensures w.if-mark-ne0.false,
      )
    ]

pub returns : goal.returns
returns c = groups_end c.loop-i.invariant.2 (omega arith)
