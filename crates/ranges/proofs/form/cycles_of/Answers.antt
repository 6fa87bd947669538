-- The field is the definition.
use Rattle.ranges.specs.FormLaws.{cycles_is}
use Rattle.ranges.proofs.form.cycles_of.Goals as goal

pub returns : goal.returns
returns c = cycles_is _ _ c.data_field.ensures.is
