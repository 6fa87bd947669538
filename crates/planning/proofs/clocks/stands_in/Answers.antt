-- None without a master.
use Rattle.planning.specs.ClocksLaws.{stands_none, stands_some}
use Rattle.planning.proofs.clocks.stands_in.Goals as goal

pub returns-then-e-eq0 : goal.returns-then-e-eq0
returns-then-e-eq0 c = stands_none c.entry_of-e.ensures c.if-e-eq0.true

pub returns : goal.returns
returns c = stands_some c.entry_of-e.ensures c.if-e-eq0.false c.first_same.ensures
