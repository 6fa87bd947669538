-- Three fields, one after the other.
use Rattle.std.proofs.Common.{length-append}
use Rattle.base.specs.FieldLaws.{length-le}
use Rattle.base.specs.BlitLaws.{blit-append}
use Rattle.filling.proofs.put_dl_data.Goals as goal

pub returns : goal.returns
returns c = simp (blit-append, length-append, length-le) cc
