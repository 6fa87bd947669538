-- The records of a block that is not the last, each of the column's width.
use Rattle.writing.specs.ColumnLaws.{payload_near, payload_is}
use Rattle.std.proofs.Common.{arith, rules}
use Rattle.writing.proofs.placed.payload_of.Goals as goal

pub overflow_mul-result : goal.overflow_mul-result
overflow_mul-result c = let h = payload_near _ _ _ c.per_full.ensures (omega arith) c.width_of-w.ensures.small in omega
    (arith, h)

pub returns : goal.returns
returns c = payload_is _ _ _ _ c.per_full.ensures c.width_of-w.ensures.is
