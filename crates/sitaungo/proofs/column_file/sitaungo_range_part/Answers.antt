-- The place's numbers.
use Rattle.std.proofs.Common.{ap, ◌∙◌}
use Rattle.sitaungo.specs.ColumnFile.{exported_part}
use Rattle.sitaungo.proofs.column_file.sitaungo_range_part.Goals as goal

pub returns : goal.returns
returns c = c.into.ensures ∙ ap exported_part c.locate.ensures
