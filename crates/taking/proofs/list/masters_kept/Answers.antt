-- What is left of the columns gives what all give.
use Rattle.fields.specs.AnswerLaws.{passed_on}
use mathlib.Core.Path.{◌∙◌}
use native.Mathlib.Omega.{arith}
use Rattle.taking.specs.EachLaws.{each_begin, each_refused, each_next, each_end}
use Rattle.taking.specs.MarksLaws.{masters-each}
use Rattle.taking.proofs.list.masters_kept.Goals as goal

pub loop-k-init : goal.loop-k-init
loop-k-init c = (omega arith, λ ns r. each_begin _ _)

pub returns-in_err-master_kept : goal.returns-in_err-master_kept
returns-in_err-master_kept c =
    rw (passed_on _ _ c.from_residual.ensures)
    (λ ns r. each_refused _ _ _ (c.loop-k.invariant.1 ns r) c.loop-k-test.true (c.master_kept.ensures ns r) c.in_err-master_kept.was ∙ masters-each _ _ _ _ _ _)

pub loop-k-preserved : goal.loop-k-preserved
loop-k-preserved c = (omega arith, λ ns r. each_next _ _ _ (c.loop-k.invariant.1 ns r) c.loop-k-test.true (c.master_kept.ensures ns r) c.in_ok-master_kept.was)

pub returns : goal.returns
returns c = λ ns r. each_end _ _ _ (c.loop-k.invariant.1 ns r) c.loop-k-test.false ∙ masters-each _ _ _ _ _ _
