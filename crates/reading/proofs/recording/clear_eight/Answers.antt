-- Words that are zero are as if they were set.
use Rattle.reading.specs.ClearLaws.{zero_eight}
use Rattle.reading.proofs.recording.clear_eight.Goals as goal

pub returns-then-any-eq0 : goal.returns-then-any-eq0
returns-then-any-eq0 c = zero_eight _ _ c.if-any-eq0.true
