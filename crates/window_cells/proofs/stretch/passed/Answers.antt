use Rattle.window_cells.specs.StretchLaws.{passed-is}
use Rattle.window_cells.proofs.stretch.passed.Goals as goal

pub returns : goal.returns
returns c = rw c.saturating_sub.ensures (passed-is _ _ _)
