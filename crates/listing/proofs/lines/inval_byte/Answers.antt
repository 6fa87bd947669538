-- One test.
use borrow.Author.Rules.{rules}
use Rattle.listing.specs.LinesLaws.{one_no, one_yes}
use Rattle.listing.proofs.lines.inval_byte.Goals as goal

pub returns-then-keeps_inval : goal.returns-then-keeps_inval
returns-then-keeps_inval c = one_yes c.keeps_inval.ensures c.if-keeps_inval.true

pub returns-else-keeps_inval : goal.returns-else-keeps_inval
returns-else-keeps_inval c = one_no c.keeps_inval.ensures c.if-keeps_inval.false
