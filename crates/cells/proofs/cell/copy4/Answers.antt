-- The bytes read, stored one after the other, are a part laid over the slice.
use Rattle.cells.specs.CellLaws.{copy-four}
use native.Mathlib.Omega.{arith}
use lib.ListN.{length-set}
use Rattle.cells.proofs.cell.copy4.Goals as goal

pub bounds-d-at-2 : goal.bounds-d-at-2
bounds-d-at-2 c = simp length-set (omega arith)

pub bounds-d-at-3 : goal.bounds-d-at-3
bounds-d-at-3 c = simp length-set (omega arith)

pub bounds-d-at-4 : goal.bounds-d-at-4
bounds-d-at-4 c = simp length-set (omega arith)

pub shape_of-d : goal.shape_of-d
shape_of-d c = simp length-set

pub returns : goal.returns
returns c = copy-four _ _ _ _ (omega arith)
