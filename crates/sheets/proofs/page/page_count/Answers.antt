-- One, or the quotient.
use Rattle.sheets.specs.PageLaws.{count_none, count_some}
use Rattle.sheets.proofs.page.page_count.Goals as goal

pub returns-then-n-eq0 : goal.returns-then-n-eq0
returns-then-n-eq0 c = count_none _ c.if-n-eq0.true

pub returns : goal.returns
returns c = count_some _ c.if-n-eq0.false
