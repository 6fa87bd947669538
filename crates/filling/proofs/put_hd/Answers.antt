-- Header, links and data, one after the other.
use Rattle.base.specs.BlitLaws.{blit-append}
use Rattle.base.specs.FieldLaws.{length-le}
use Rattle.std.proofs.Common.{length-append}
use Rattle.puts.specs.PutLaws.{length-header}
use Rattle.result.specs.Fill.{hd_bytes, hd_data}
use Rattle.filling.proofs.put_hd.Goals as goal

pub returns : goal.returns
unfolding hd_bytes hd_data
returns c = simp (blit-append, length-append, length-header, length-le) cc
