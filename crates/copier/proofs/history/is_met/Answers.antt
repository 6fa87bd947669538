-- A block that is found may be one of the chain, any other is none of it.
use mathlib.Core.Path.{◌∙◌}
use Rattle.copier.specs.BeginLaws.{tested_none}
use Rattle.copier.specs.HistoryLaws.{in_chain, unmet}
use Rattle.copier.proofs.history.is_met.Goals as goal

pub returns-then-is_some : goal.returns-then-is_some
returns-then-is_some c = c.contains.ensures.value ∙ in_chain _ _ _

pub returns-else-is_some : goal.returns-else-is_some
returns-else-is_some c = rw c.if-is_some.false (unmet _ _ _ _ c.requires.4 (tested_none _ (c.find_in.ensures c.requires.3) c.is_some.ensures c.if-is_some.false))
