-- By the test of the word.
use mathlib.Core.Path.{refl}
use Rattle.base.specs.ChoiceLaws.{eq_yes, eq_no}
use Rattle.thinning.proofs.column.by_word.Goals as goal

pub returns-then-word-eq0 : goal.returns-then-word-eq0
returns-then-word-eq0 c = eq_yes _ _ _ _ c.if-word-eq0.true refl

pub returns-else-word-eq0 : goal.returns-else-word-eq0
returns-else-word-eq0 c = eq_no _ _ _ _ c.if-word-eq0.false refl
