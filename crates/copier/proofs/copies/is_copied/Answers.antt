-- The kinds are those of the definition.
use mathlib.Core.Path.{◌∙◌}
use Rattle.copier.specs.BeginLaws.{copied-any}
use Rattle.copier.proofs.copies.is_copied.Goals as goal

pub returns : goal.returns
returns c = c.contains.ensures.value ∙ copied-any _
