-- One test.
use Rattle.listing.specs.LinesLaws.{letter_no, letter_yes}
use Rattle.listing.proofs.lines.letter.Goals as goal

pub returns-then-time-eq1 : goal.returns-then-time-eq1
returns-then-time-eq1 c = letter_yes _ c.if-time-eq1.true

pub returns-else-time-eq1 : goal.returns-else-time-eq1
returns-else-time-eq1 c = letter_no _ c.if-time-eq1.false
