-- The answer's numbers beside the buffer.
use Rattle.std.proofs.Common.{ap}
use Rattle.sitaungo.specs.ColumnFile.{exported_read}
use Rattle.sitaungo.proofs.column_file.sitaungo_read_range.Goals as goal

pub returns : goal.returns
returns c = rw c.into.ensures (ap exported_read c.read_range.ensures)
