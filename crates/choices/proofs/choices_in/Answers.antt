-- 26 exactly where the number is no unit; else the table's own answer.
use Rattle.choices.specs.RulesLaws.{choices_past, choices_refused}
use Rattle.choices.proofs.choices_in.Goals as goal

pub returns-then-is_unit : goal.returns-then-is_unit
returns-then-is_unit c = choices_past _ c.is_unit.ensures c.if-is_unit.true c.table_in.ensures

pub returns : goal.returns
returns c = choices_refused _ c.is_unit.ensures c.if-is_unit.false
