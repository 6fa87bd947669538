-- A CG has a seventh link where it has a master.
use Rattle.placing.specs.InWordsLaws.{cg_yes, cg_no}
use native.Mathlib.Omega.{arith}
use Rattle.placing.proofs.columns.cg_bytes.Goals as goal

pub returns-then-master-eq0 : goal.returns-then-master-eq0
returns-then-master-eq0 c = cg_yes _ (omega arith)

pub returns-else-master-eq0 : goal.returns-else-master-eq0
returns-else-master-eq0 c = cg_no _ (λ e. omega arith)
