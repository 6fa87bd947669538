-- Past the end nothing is stored; else the data is copied from where it begins.
use Rattle.copying.specs.CopyingLaws.{data_from_lem}
use Rattle.puts.specs.PutLaws.{blit-past}
use mathlib.Core.Path.{sym}
use native.Mathlib.Omega.{arith}
use Rattle.copying.proofs.put_data.Goals as goal

pub returns-then-room-at : goal.returns-then-room-at
returns-then-room-at c = sym (blit-past _ _ _ (omega arith))

pub returns : goal.returns
returns c = data_from_lem _ _ _ _ c.data_at-from.ensures
    c.data_size-size.ensures c.copy.ensures
