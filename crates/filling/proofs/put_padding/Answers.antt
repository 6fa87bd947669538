-- Past the end nothing is stored.
use Rattle.std.proofs.Common.{sym, arith}
use Rattle.puts.specs.PutLaws.{blit-past}
use Rattle.filling.proofs.put_padding.Goals as goal

pub returns-then-room-lt24 : goal.returns-then-room-lt24
returns-then-room-lt24 c = sym (blit-past _ _ _ (omega arith))
