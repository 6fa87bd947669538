-- Header, links and data, one after the other.
use lib.ListN.{length-append}
use Rattle.base.specs.FieldLaws.{length-le}
use Rattle.base.specs.BlitLaws.{blit-append}
use Rattle.puts.specs.PutLaws.{length-header}
use Rattle.thin.specs.Fill.{kept_data}
use Rattle.thin_blocks.specs.Blocks.{dg_kept}
use Rattle.thin_blocks.proofs.kept.put_kept_dg.Goals as goal

pub returns : goal.returns
unfolding dg_kept kept_data
returns c = simp (blit-append, length-append, length-header, length-le) cc
