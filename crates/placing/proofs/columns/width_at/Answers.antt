-- The width, by the words.
use Rattle.placing.specs.InWords.{width_at}
use Rattle.placing.proofs.columns.width_at.Goals as goal

pub returns : goal.returns
unfolding width_at
returns c = cc
