-- The bytes read, stored one after the other, are a part laid over the slice.
use Rattle.cells.specs.CellLaws.{copy_eight}
use native.Mathlib.Omega.{arith}
use lib.ListN.{length-set}
use Rattle.cells.proofs.cell.copy8.Goals as goal

pub bounds-d-at-2 : goal.bounds-d-at-2
bounds-d-at-2 c = simp length-set (omega arith)

pub bounds-d-at-3 : goal.bounds-d-at-3
bounds-d-at-3 c = simp length-set (omega arith)

pub bounds-d-at-4 : goal.bounds-d-at-4
bounds-d-at-4 c = simp length-set (omega arith)

pub bounds-d-at-5 : goal.bounds-d-at-5
bounds-d-at-5 c = simp length-set (omega arith)

pub bounds-d-at-6 : goal.bounds-d-at-6
bounds-d-at-6 c = simp length-set (omega arith)

pub bounds-d-at-7 : goal.bounds-d-at-7
bounds-d-at-7 c = simp length-set (omega arith)

pub bounds-d-at-8 : goal.bounds-d-at-8
bounds-d-at-8 c = simp length-set (omega arith)

pub shape_of-d : goal.shape_of-d
shape_of-d c = simp length-set

pub returns : goal.returns
returns c = copy_eight _ _ _ _ (omega arith)
