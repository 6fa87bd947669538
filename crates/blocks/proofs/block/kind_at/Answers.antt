-- The kind is the 32-bit field at a.
use Rattle.mdf.specs.Block.{kind_at}
use Rattle.blocks.proofs.block.kind_at.Goals as goal

pub returns : goal.returns
unfolding kind_at
returns c = c.field_at.ensures.is
