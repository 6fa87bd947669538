-- Each return is one test.
use Rattle.std.proofs.Common.{◌∙◌, eq-eqb}
use Rattle.ranges.specs.FormLaws.{data_zero, data_list}
use Rattle.ranges.proofs.form.data_formed.Goals as goal

pub returns-then-a-eq0 : goal.returns-then-a-eq0
returns-then-a-eq0 c = eq-eqb _ _ c.if-a-eq0.true ∙ data_zero _ _ c.if-a-eq0.true

pub returns-else-a-eq0 : goal.returns-else-a-eq0
returns-else-a-eq0 c = data_list _ _ c.if-a-eq0.false c.list_formed.ensures
