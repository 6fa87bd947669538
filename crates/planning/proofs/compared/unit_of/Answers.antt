-- None without a master.
use Rattle.planning.specs.ComparedLaws.{unit_none, unit_some}
use Rattle.planning.proofs.compared.unit_of.Goals as goal

pub returns-then-e-eq0 : goal.returns-then-e-eq0
returns-then-e-eq0 c = unit_none _ _ c.if-e-eq0.true

pub returns : goal.returns
returns c = unit_some _ _ c.if-e-eq0.false c.unit_in.ensures
