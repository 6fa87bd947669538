-- Without blocks there is none.
use Rattle.std.proofs.Common.{refl, arith, rules}
use Rattle.base.specs.ChoiceLaws.{eq_yes, eq_no}
use Rattle.writing.proofs.structure.dl_place.Goals as goal

pub returns-then-h-eq0 : goal.returns-then-h-eq0
returns-then-h-eq0 c = eq_yes _ _ _ _ (omega arith) refl

pub returns-else-h-eq0 : goal.returns-else-h-eq0
returns-else-h-eq0 c = eq_no _ _ _ _ (omega arith) refl
