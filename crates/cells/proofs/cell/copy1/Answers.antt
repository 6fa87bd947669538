-- The bytes read, stored one after the other, are a part laid over the slice.
use Rattle.cells.specs.CellLaws.{copy-one}
use native.Mathlib.Omega.{arith}
use lib.ListN.{length-set}
use Rattle.cells.proofs.cell.copy1.Goals as goal

pub shape_of-d : goal.shape_of-d
shape_of-d c = simp length-set

pub returns : goal.returns
returns c = copy-one _ _ _ _ (omega arith)
