-- By the number of fragments.
use mathlib.Core.Path.{refl}
use Rattle.base.specs.ChoiceLaws.{eq_yes, eq_no}
use Rattle.taking.proofs.kept.signal_word.Goals as goal

pub returns-then-count-eq0 : goal.returns-then-count-eq0
returns-then-count-eq0 c = eq_yes _ _ _ _ c.if-count-eq0.true refl

pub returns-else-count-eq0 : goal.returns-else-count-eq0
returns-else-count-eq0 c = eq_no _ _ _ _ c.if-count-eq0.false refl
