-- With a master there is a link more.
use Rattle.std.proofs.Common.{arith}
use Rattle.window_blocks.proofs.cg_length.Goals as goal

pub returns-then-remote : goal.returns-then-remote
returns-then-remote c = (rw (c.if-remote.true, ← c.data_there-k.ensures.0), omega (arith, c.data_there-k.ensures.1))

pub returns-else-remote : goal.returns-else-remote
returns-else-remote c = (rw (c.if-remote.false, ← c.data_there-k.ensures.0), omega (arith, c.data_there-k.ensures.1))
