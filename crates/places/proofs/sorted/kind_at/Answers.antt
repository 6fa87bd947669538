-- Without a fragment here there is no DV, and with one its kind is read.
use Rattle.places.specs.RunLaws.{begins-none, begins-some}
use native.Mathlib.Omega.{arith}
use Rattle.places.proofs.sorted.kind_at.Goals as goal

pub returns-then-n-at : goal.returns-then-n-at
returns-then-n-at c = begins-none _ _ (omega arith)

pub returns-then-n-at-lt3 : goal.returns-then-n-at-lt3
returns-then-n-at-lt3 c = begins-none _ _ (omega arith)

pub returns : goal.returns
returns c = begins-some _ _ (omega arith) c.is_dv.ensures
