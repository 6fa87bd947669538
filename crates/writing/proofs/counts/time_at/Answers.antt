use Rattle.writing.specs.CountedLaws.{time_yes, time_no}
use Rattle.std.proofs.Common.{rules}
use Rattle.writing.proofs.counts.time_at.Goals as goal

pub returns-then-word-eq1 : goal.returns-then-word-eq1
returns-then-word-eq1 c = time_yes _ _ c.word.ensures c.if-word-eq1.true

pub returns-else-word-eq1 : goal.returns-else-word-eq1
returns-else-word-eq1 c = time_no _ _ c.word.ensures c.if-word-eq1.false
