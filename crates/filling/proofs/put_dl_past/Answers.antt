-- Past the end nothing is stored; else the part from there on is lent.
use Rattle.std.proofs.Common.{sym, arith}
use Rattle.puts.specs.PutLaws.{blit-past, lent_is}
use Rattle.filling.proofs.put_dl_past.Goals as goal

pub returns-then-room-lt32 : goal.returns-then-room-lt32
returns-then-room-lt32 c = sym (blit-past _ _ _ (omega arith))

pub returns : goal.returns
returns c = lent_is _ _ _ _ c.put_dl_data.ensures
