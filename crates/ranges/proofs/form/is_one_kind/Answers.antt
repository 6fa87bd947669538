-- Each return is one test.
use Rattle.std.proofs.Common.{◌∙◌}
use Rattle.ranges.specs.FormLaws.{kind-dt, kind_mixed, kind-dv}
use Rattle.ranges.proofs.form.is_one_kind.Goals as goal

pub returns-then-all_of : goal.returns-then-all_of
returns-then-all_of c = kind-dt _ _ _ _ c.all_of.ensures c.if-all_of.true

pub returns-then-all_of-2 : goal.returns-then-all_of-2
returns-then-all_of-2 c = kind-dv _ _ _ _ c.all_of.ensures c.if-all_of.false c.all_of-2.ensures c.if-all_of-2.true c.inval_bytes.ensures.is

pub returns-else-all_of-2 : goal.returns-else-all_of-2
returns-else-all_of-2 c = c.if-all_of-2.false ∙ kind_mixed _ _ _ _ c.all_of.ensures c.if-all_of.false c.all_of-2.ensures c.if-all_of-2.false
