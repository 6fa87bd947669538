-- No new column, or its channel's references.
use Rattle.planning.specs.SettleLaws.{tested_none, tested_new}
use Rattle.planning.proofs.timing.time_in.Goals as goal

pub returns-then-n-nc : goal.returns-then-n-nc
returns-then-n-nc c = tested_none _ _ _ _ _ c.if-n-nc.true

pub returns : goal.returns
returns c = tested_new _ _ _ _ _ c.if-n-nc.false c.word-c.ensures c.photos_in.ensures
