-- A part, and the part after it.
use Rattle.cells.specs.CellLaws.{copy_parts}
use mathlib.Core.Path.{refl}
use native.Mathlib.Omega.{arith}
use Rattle.cells.proofs.cell.copy3.Goals as goal

pub returns : goal.returns
returns c = copy_parts _ _ 2 1 3 _ _ _ _ refl (omega arith)
    c.copy2.ensures c.copy1.ensures
