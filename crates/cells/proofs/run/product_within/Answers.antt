-- By a division.
use native.Mathlib.Omega.{arith}
use Rattle.cells.specs.SpotLaws.{answer_yes, product_small, product_by}
use Rattle.cells.proofs.run.product_within.Goals as goal

pub returns-then-w-eq0 : goal.returns-then-w-eq0
returns-then-w-eq0 c = answer_yes (product_small _ _ _ c.if-w-eq0.true)

pub returns : goal.returns
returns c = product_by _ _ _ (omega arith)
