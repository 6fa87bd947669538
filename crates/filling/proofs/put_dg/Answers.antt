-- Header and fields, one after the other.
use Rattle.std.proofs.Common.{length-append}
use Rattle.base.specs.FieldLaws.{length-le}
use Rattle.base.specs.BlitLaws.{blit-append}
use Rattle.puts.specs.PutLaws.{length-header}
use Rattle.filling.specs.Blocks.{dg_from}
use Rattle.filling.proofs.put_dg.Goals as goal

pub returns : goal.returns
unfolding dg_from
returns c = simp (blit-append, length-append, length-header, length-le) cc
