-- The number of blocks for the column's width.
use Rattle.std.proofs.Common.{◌∙◌, rules}
use Rattle.writing.proofs.placed.blocks_of.Goals as goal

pub returns : goal.returns
returns c = c.block_count.ensures ∙ rw c.width_of.ensures.is
