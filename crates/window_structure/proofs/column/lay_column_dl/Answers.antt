-- Without blocks there is none.
use Rattle.window_structure.specs.ColumnLaws.{laid_no_dl, laid-dl}
use native.Mathlib.Omega.{arith}
use Rattle.window_structure.proofs.column.lay_column_dl.Goals as goal

pub returns-then-n-eq0 : goal.returns-then-n-eq0
returns-then-n-eq0 c = laid_no_dl _ _ _ (omega arith)

pub returns : goal.returns
returns c = laid-dl _ _ _ _ c.if-n-eq0.false c.lay_dl.ensures
