-- By the channel type.
use mathlib.Core.Path.{sym, ◌∙◌}
use Rattle.sheets.specs.LineLaws.{kind_time, kind_signal}
use Rattle.sheets.proofs.line.kind_of.Goals as goal

pub returns-then-is_master_type : goal.returns-then-is_master_type
returns-then-is_master_type c = kind_time _ _ (sym c.if-is_master_type.true ∙ c.is_master_type.ensures)

pub returns : goal.returns
returns c = kind_signal _ _ (sym c.if-is_master_type.false ∙ c.is_master_type.ensures)
