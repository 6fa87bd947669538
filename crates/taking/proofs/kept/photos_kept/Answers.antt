-- What is left of the columns gives what all give.
use Rattle.fields.specs.AnswerLaws.{passed_on}
use mathlib.Core.Path.{◌∙◌}
use native.Mathlib.Omega.{arith}
use Rattle.thin.specs.Kept.{kept_columns}
use Rattle.taking.specs.EachLaws.{each_begin, each_refused, each_next, each_end}
use Rattle.taking.specs.MarksLaws.{photos_each}
use Rattle.taking.proofs.kept.photos_kept.Goals as goal

pub loop-k-init : goal.loop-k-init
loop-k-init c = (omega arith, λ ns r. each_begin _ _)

pub returns-in_err-photo_kept : goal.returns-in_err-photo_kept
unfolding kept_columns
returns-in_err-photo_kept c =
    rw (passed_on _ _ c.from_residual.ensures)
    (λ ns r. each_refused _ _ _ (c.loop-k.invariant.1 ns r) c.loop-k-test.true (c.photo_kept.ensures ns r) c.in_err-photo_kept.was ∙ photos_each _ _ _ _ _ _)

pub loop-k-preserved : goal.loop-k-preserved
loop-k-preserved c = (omega arith, λ ns r. each_next _ _ _ (c.loop-k.invariant.1 ns r) c.loop-k-test.true (c.photo_kept.ensures ns r) c.in_ok-photo_kept.was)

pub returns : goal.returns
unfolding kept_columns
returns c = λ ns r. each_end _ _ _ (c.loop-k.invariant.1 ns r) c.loop-k-test.false ∙ photos_each _ _ _ _ _ _
