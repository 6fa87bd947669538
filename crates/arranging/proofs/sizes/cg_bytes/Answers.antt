-- By whether there is a master.
use Rattle.arranging.specs.SizedLaws.{cg_yes, cg_no}
use Rattle.arranging.proofs.sizes.cg_bytes.Goals as goal

pub returns-then-master-eq0 : goal.returns-then-master-eq0
returns-then-master-eq0 c = cg_yes _ c.if-master-eq0.true

pub returns-else-master-eq0 : goal.returns-else-master-eq0
returns-else-master-eq0 c = cg_no _ c.if-master-eq0.false
