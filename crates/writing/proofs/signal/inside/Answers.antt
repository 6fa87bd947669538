-- The least of what is asked for and what is there.
use Rattle.std.proofs.Common.{◌∙◌}
use Rattle.writing.specs.SignalLaws.{inside_some}
use Rattle.writing.proofs.signal.inside.Goals as goal

pub returns : goal.returns
returns c = inside_some _ _ _ (c.min.ensures ∙ rw c.saturating_sub.ensures)
