-- 0 where the table says so, else the type as it is.
use Rattle.writing.specs.ColumnLaws.{stored-zero, stored_same}
use Rattle.std.proofs.Common.{rules}
use Rattle.writing.proofs.placed.stored_type.Goals as goal

pub returns-then-treatment_of-eq2 : goal.returns-then-treatment_of-eq2
returns-then-treatment_of-eq2 c = stored-zero _ _ _ c.channel_type-t.ensures.is c.treatment_of.ensures c.if-treatment_of-eq2.true

pub returns : goal.returns
returns c = stored_same _ _ _ c.channel_type-t.ensures.is c.treatment_of.ensures c.if-treatment_of-eq2.false
