-- Without blocks there is none.
use Rattle.std.proofs.Common.{arith, refl}
use Rattle.base.specs.ChoiceLaws.{eq_yes, eq_no}
use Rattle.window_structure.proofs.column.dl_place.Goals as goal

pub returns-then-h-eq0 : goal.returns-then-h-eq0
returns-then-h-eq0 c = eq_yes _ _ _ _ (omega arith) refl

pub returns-else-h-eq0 : goal.returns-else-h-eq0
returns-else-h-eq0 c = eq_no _ _ _ _ (omega arith) refl
