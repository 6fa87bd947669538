-- Each early return is the image's end, with the data beginning past it.
use native.Mathlib.Omega.{arith}
use Rattle.mdf.specs.Block.{data_at}
use Rattle.blocks.specs.BlockLaws.{begins_in, begins-past}
use Rattle.blocks.proofs.block.data_at.Goals as goal

pub returns-then-n-a : goal.returns-then-n-a
unfolding data_at
returns-then-n-a c = begins-past _ _ (omega arith)

pub returns-then-n-a-2 : goal.returns-then-n-a-2
unfolding data_at
returns-then-n-a-2 c = begins-past _ _ (omega arith)

pub returns-then-n-at : goal.returns-then-n-at
unfolding data_at
returns-then-n-at c = begins-past _ _ (omega arith)

pub returns : goal.returns
returns c = begins_in _ _ c.links_at-links.ensures (omega arith) (omega arith)
