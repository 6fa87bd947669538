-- The tests are those of the definition.
use Rattle.planning.specs.StageLaws.{nonempty_other, nonempty_narrow, nonempty_by}
use borrow.Author.Tests.{le-ltb}
use Rattle.planning.proofs.stage.is_nonempty.Goals as goal

pub returns-then-word-d : goal.returns-then-word-d
returns-then-word-d c = nonempty_other _ _ _ _ c.word.ensures c.if-word-d.true

pub returns-then-width_of-gt0 : goal.returns-then-width_of-gt0
returns-then-width_of-gt0 c = nonempty_by _ _ _ _ c.word.ensures
    c.if-word-d.false c.word-c.ensures
    c.word-g.ensures c.width_of.ensures.is c.if-width_of-gt0.true
    c.word-then-width_of-gt0.ensures

pub returns-else-width_of-gt0 : goal.returns-else-width_of-gt0
returns-else-width_of-gt0 c =
    rw (le-ltb 0 c.width_of.result c.if-width_of-gt0.false) (nonempty_narrow _ _ _ _ c.word.ensures
    c.if-word-d.false c.word-c.ensures
    c.word-g.ensures c.width_of.ensures.is c.if-width_of-gt0.false)
