-- Where the data begins past the image there is nothing to copy; else it begins where the code says.
use Rattle.std.proofs.Common.{arith}
use Rattle.filling.specs.BlocksLaws.{laid_none, laid-part}
use Rattle.filling.proofs.put_data.Goals as goal

pub returns-then-all-from : goal.returns-then-all-from
returns-then-all-from c = laid_none _ _ _ _ _ _ _ _ c.data_at-from.ensures (omega arith) (omega arith)

pub returns : goal.returns
returns c = laid-part _ _ _ _ _ _ _ _ _ _ c.data_at-from.ensures (omega arith)
    c.copy.ensures c.min-k.ensures (omega arith)
