-- By the number of blocks.
use mathlib.Core.Path.{refl}
use Rattle.base.specs.ChoiceLaws.{eq_yes, eq_no}
use borrow.Author.Rules.{rules}
use Rattle.thinning.proofs.structure.dl_place.Goals as goal

pub returns-then-h-eq0 : goal.returns-then-h-eq0
returns-then-h-eq0 c = eq_yes _ _ _ _ c.if-h-eq0.true refl

pub returns-else-h-eq0 : goal.returns-else-h-eq0
returns-else-h-eq0 c = eq_no _ _ _ _ c.if-h-eq0.false refl
