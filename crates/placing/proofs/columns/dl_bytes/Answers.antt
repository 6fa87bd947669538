-- No DL without blocks.
use Rattle.placing.specs.InWordsLaws.{dl-none, dl-some}
use native.Mathlib.Omega.{arith}
use Rattle.placing.proofs.columns.dl_bytes.Goals as goal

pub returns-then-n-eq0 : goal.returns-then-n-eq0
returns-then-n-eq0 c = dl-none _ (omega arith)

pub returns-else-n-eq0 : goal.returns-else-n-eq0
returns-else-n-eq0 c = dl-some _ (λ e. omega arith)
