-- One store.
use Rattle.std.proofs.Common.{arith}
use Rattle.texts.specs.LaidLaws.{laid_byte}
use Rattle.texts.proofs.put_byte.Goals as goal

pub returns : goal.returns
returns c = laid_byte c.put_u8.ensures (omega arith)
