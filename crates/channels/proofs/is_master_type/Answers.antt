-- The type decides, as in the definition.
use native.Mathlib.Omega.{arith}
use borrow.Author.Tests.{eq-eqb}
use Rattle.channels.specs.ChannelLaws.{master_two, master_else}
use Rattle.channels.proofs.is_master_type.Goals as goal

pub returns-then-t-eq2 : goal.returns-then-t-eq2
returns-then-t-eq2 c = rw (eq-eqb _ 2 c.if-t-eq2.true) (master_two _ _ c.channel_type-t.ensures.is (omega arith))

pub returns-else-t-eq2 : goal.returns-else-t-eq2
returns-else-t-eq2 c = master_else _ _ c.channel_type-t.ensures.is (omega arith)
