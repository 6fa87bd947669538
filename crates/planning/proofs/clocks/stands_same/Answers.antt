-- Another stands for it, or the two are compared.
use Rattle.planning.specs.ClocksLaws.{stands_other, stands_first}
use borrow.Author.Tests.{ne_eqb}
use Rattle.planning.proofs.clocks.stands_same.Goals as goal

pub returns-else-word-eq0 : goal.returns-else-word-eq0
returns-else-word-eq0 c = rw (ne_eqb _ _ c.if-word-eq0.false) (stands_other _ c.word.ensures c.if-word-eq0.false)

pub returns-then-word-eq0 : goal.returns-then-word-eq0
returns-then-word-eq0 c = stands_first _ c.word.ensures c.if-word-eq0.true c.same_times.ensures
