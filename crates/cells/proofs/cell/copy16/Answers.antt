-- A part, and the part after it.
use Rattle.cells.specs.CellLaws.{copy_parts}
use mathlib.Core.Path.{refl}
use native.Mathlib.Omega.{arith}
use Rattle.cells.proofs.cell.copy16.Goals as goal

pub returns : goal.returns
returns c = copy_parts _ _ 8 8 16 _ _ _ _ refl (omega arith)
    c.copy8.ensures c.copy8-2.ensures
