-- No signal data by the word 0.
use Rattle.writing.specs.WordLaws.{sd_no, sd_yes}
use Rattle.std.proofs.Common.{arith}
use Rattle.writing.proofs.placed.sd_link.Goals as goal

pub returns-then-word-eq0 : goal.returns-then-word-eq0
returns-then-word-eq0 c = sd_no _ _ (omega arith)

pub returns-else-word-eq0 : goal.returns-else-word-eq0
returns-else-word-eq0 c = sd_yes _ _ (omega arith)
