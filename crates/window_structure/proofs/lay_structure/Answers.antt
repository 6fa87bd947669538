-- Columns that the window does not see are passed over; the others are laid.
use Rattle.std.proofs.Common.{arith}
use Rattle.window_structure.specs.LayingLaws.{columns_begin, columns_end}
use Rattle.window_structure.proofs.lay_structure.Goals as goal

pub returns-in_default : goal.returns-in_default
returns-in_default c = λ q l h at room o. columns_end (rw c.in_default.is at c.lay_passed.ensures _ _ _ q l (columns_begin _ at room o)) (omega arith)

pub returns : goal.returns
returns c = λ q l h at room o. c.lay_columns.ensures _ q l (rw c.in-Some.is at c.lay_passed.ensures _ _ _ q l (columns_begin _ at room o))
