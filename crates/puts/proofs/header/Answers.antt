-- Four fields, one after the other.
use lib.ListN.{length-append}
use Rattle.base.specs.BlitLaws.{blit-append}
use Rattle.base.specs.FieldLaws.{length-le}
use Rattle.result.specs.Fill.{header}
use Rattle.puts.proofs.header.Goals as goal

pub returns : goal.returns
unfolding header
returns c = simp (blit-append, length-append, length-le) cc
