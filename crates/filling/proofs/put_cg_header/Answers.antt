-- With a master the CG has a seventh link.
use Rattle.filling.specs.Blocks.{cg_header}
use Rattle.filling.proofs.put_cg_header.Goals as goal

pub returns-then-remote : goal.returns-then-remote
unfolding cg_header
returns-then-remote c = rw c.if-remote.true c.header.ensures

pub returns : goal.returns
unfolding cg_header
returns c = rw c.if-remote.false c.header-2.ensures
