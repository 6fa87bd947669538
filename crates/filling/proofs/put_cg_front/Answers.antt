-- Header and links, one after the other.
use Rattle.std.proofs.Common.{length-append}
use Rattle.base.specs.FieldLaws.{length-le}
use Rattle.base.specs.BlitLaws.{blit-append}
use Rattle.filling.specs.Blocks.{cg_front}
use Rattle.filling.specs.BlocksLaws.{length-cg-header}
use Rattle.filling.proofs.put_cg_front.Goals as goal

pub returns : goal.returns
unfolding cg_front
returns c = simp (blit-append, length-append, length-cg-header, length-le) cc
