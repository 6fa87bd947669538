-- One copy of all of it.
use Rattle.std.proofs.Common.{arith, refl}
use Rattle.texts.specs.LaidLaws.{laid-text}
use Rattle.texts.proofs.put_text.Goals as goal

pub returns : goal.returns
returns c = laid-text c.copy.ensures refl (omega arith)
