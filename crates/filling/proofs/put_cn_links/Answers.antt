-- Header and fields, one after the other.
use Rattle.std.proofs.Common.{length-append}
use Rattle.base.specs.FieldLaws.{length-le}
use Rattle.base.specs.BlitLaws.{blit-append}
use Rattle.puts.specs.PutLaws.{length-header}
use Rattle.filling.specs.Blocks.{cn_links}
use Rattle.filling.proofs.put_cn_links.Goals as goal

pub returns : goal.returns
unfolding cn_links
returns c = simp (blit-append, length-append, length-header, length-le) cc
