use Rattle.std.proofs.Common.{refl, rules}
use Rattle.base.specs.ChoiceLaws.{eq_yes, eq_no}
use Rattle.writing.proofs.file.first_column.Goals as goal

pub returns-then-n-eq0 : goal.returns-then-n-eq0
returns-then-n-eq0 c = eq_yes _ _ _ _ c.if-n-eq0.true refl

pub returns-else-n-eq0 : goal.returns-else-n-eq0
returns-else-n-eq0 c = eq_no _ _ _ _ c.if-n-eq0.false c.word.ensures
