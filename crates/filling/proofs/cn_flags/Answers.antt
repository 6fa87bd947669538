-- Bit 12 is taken away, and bit 1 where no invalidation bit is kept.
use Rattle.filling.specs.BlocksLaws.{flags_kept, flags_lost}
use Rattle.filling.proofs.cn_flags.Goals as goal

pub returns-then-keeps : goal.returns-then-keeps
returns-then-keeps c = flags_kept _ _ _ _ c.data_field-f.ensures c.if-keeps.true

pub returns-else-keeps : goal.returns-else-keeps
returns-else-keeps c = flags_lost _ _ _ _ c.data_field-f.ensures c.if-keeps.false
