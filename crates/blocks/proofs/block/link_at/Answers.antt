-- A link that begins in the image is read; one past it is 0.
use native.Mathlib.Omega.{arith}
use Rattle.mdf.specs.Block.{link_at}
use Rattle.blocks.specs.BlockLaws.{link-past}
use Rattle.blocks.proofs.block.link_at.Goals as goal

pub returns-then-n-a : goal.returns-then-n-a
returns-then-n-a c = link-past _ _ _ (omega arith)

pub returns-then-n-a-2 : goal.returns-then-n-a-2
returns-then-n-a-2 c = link-past _ _ _ (omega arith)

pub returns : goal.returns
unfolding link_at
returns c = c.field_at.ensures.is
