-- The cleared flags, with bit 3 where the master is remote.
use Rattle.filling.specs.BlocksLaws.{flags_remote, flags_own}
use Rattle.filling.proofs.cg_flags.Goals as goal

pub returns-then-remote : goal.returns-then-remote
returns-then-remote c = flags_remote _ _ _ _ c.data_field-f.ensures c.if-remote.true

pub returns-else-remote : goal.returns-else-remote
returns-else-remote c = flags_own _ _ _ _ c.data_field-f.ensures c.if-remote.false
