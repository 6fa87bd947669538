-- The lesser of the two, as the definition's test gives it.
use mathlib.Core.Path.{◌∙◌}
use Rattle.channels.specs.GeometryLaws.{per_least}
use Rattle.channels.proofs.per_full.Goals as goal

pub returns : goal.returns
returns c = c.min.ensures ∙ per_least _ _ _ c.per_block.ensures
