-- One test.
use borrow.Author.Rules.{rules}
use Rattle.listing.specs.LinesLaws.{master_none, master_some}
use Rattle.listing.proofs.lines.put_master.Goals as goal

pub returns-then-master-eq0 : goal.returns-then-master-eq0
returns-then-master-eq0 c = master_none _ c.if-master-eq0.true c.put_byte.ensures

pub returns : goal.returns
returns c = master_some _ c.if-master-eq0.false c.put_decimal.ensures
