-- Past the end nothing is stored; else the data that there is, and zeros for the rest, as many as have room.
use Rattle.std.proofs.Common.{sym, arith}
use Rattle.puts.specs.PutLaws.{blit-past}
use Rattle.filling.specs.BlocksLaws.{cut-laid}
use Rattle.filling.proofs.put_cut_data.Goals as goal

pub returns-then-room-at : goal.returns-then-room-at
returns-then-room-at c = sym (blit-past _ _ _ (omega arith))

pub returns : goal.returns
returns c = cut-laid _ _ _ _ _ _ _ _ _ _ _ c.min-m.ensures
    c.data_size.ensures
    c.min-k.ensures
    c.put_data-p.ensures c.zero.ensures
