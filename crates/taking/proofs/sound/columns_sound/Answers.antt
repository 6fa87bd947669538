-- What is left of the columns gives what all give.
use Rattle.fields.specs.AnswerLaws.{passed_on}
use mathlib.Core.Path.{◌∙◌}
use native.Mathlib.Omega.{arith}
use Rattle.taking.specs.EachLaws.{each_begin, each_refused, each_next, each_end}
use Rattle.taking.specs.SoundLaws.{sound-each}
use Rattle.taking.proofs.sound.columns_sound.Goals as goal

pub loop-k-init : goal.loop-k-init
loop-k-init c = (omega arith, each_begin _ _)

pub returns-in_err-column_sound : goal.returns-in_err-column_sound
returns-in_err-column_sound c = rw (passed_on _ _ c.from_residual.ensures) (each_refused _ _ _ c.loop-k.invariant.1 c.loop-k-test.true c.column_sound.ensures c.in_err-column_sound.was ∙ sound-each _ _ _ _ _)

pub loop-k-preserved : goal.loop-k-preserved
loop-k-preserved c = (omega arith, each_next _ _ _ c.loop-k.invariant.1 c.loop-k-test.true c.column_sound.ensures c.in_ok-column_sound.was)

pub returns : goal.returns
returns c = each_end _ _ _ c.loop-k.invariant.1 c.loop-k-test.false ∙ sound-each _ _ _ _ _
