-- A part, and the part after it.
use Rattle.cells.specs.CellLaws.{copy_parts}
use mathlib.Core.Path.{refl}
use native.Mathlib.Omega.{arith}
use Rattle.cells.proofs.cell.copy5.Goals as goal

pub returns : goal.returns
returns c = copy_parts _ _ 4 1 5 _ _ _ _ refl (omega arith)
    c.copy4.ensures c.copy1.ensures
