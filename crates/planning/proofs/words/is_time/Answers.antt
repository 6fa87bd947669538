-- The two tests are those of the definition.
use Rattle.planning.specs.WordLaws.{time_not, time_by}
use borrow.Author.Tests.{ne_eqb}
use Rattle.planning.proofs.words.is_time.Goals as goal

pub returns-then-word-eq1 : goal.returns-then-word-eq1
returns-then-word-eq1 c = time_by _ _ _ c.word.ensures c.if-word-eq1.true c.word-then-word-eq1.ensures

pub returns-else-word-eq1 : goal.returns-else-word-eq1
returns-else-word-eq1 c = rw (ne_eqb _ _ c.if-word-eq1.false) (time_not _ _ _ c.word.ensures c.if-word-eq1.false)
