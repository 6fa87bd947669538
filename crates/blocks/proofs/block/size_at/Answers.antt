-- Where a lies in the image the field is read; past it the field is 0.
use native.Mathlib.Omega.{arith}
use Rattle.mdf.specs.Block.{size_at}
use Rattle.blocks.specs.BlockLaws.{size-past}
use Rattle.blocks.proofs.block.size_at.Goals as goal

pub returns-then-n-a : goal.returns-then-n-a
returns-then-n-a c = size-past _ _ (omega arith)

pub returns : goal.returns
unfolding size_at
returns c = c.field_at.ensures.is
