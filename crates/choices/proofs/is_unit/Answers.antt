-- The units are those of the definition.
use mathlib.Core.Path.{◌∙◌}
use Rattle.choices.specs.RulesLaws.{among-any}
use Rattle.choices.proofs.is_unit.Goals as goal

pub returns : goal.returns
returns c = c.contains.ensures.value ∙ among-any _ _
