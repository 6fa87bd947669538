-- As it stands, or at the next multiple.
use Rattle.arranging.specs.SizedLaws.{start_none, start-some, start_near}
use native.Mathlib.Omega.{arith}
use borrow.Author.Rules.{rules}
use Rattle.arranging.proofs.sizes.start_of.Goals as goal

pub returns-then-any-eq0 : goal.returns-then-any-eq0
returns-then-any-eq0 c = start_none _ _ _ (omega arith)

pub overflow_mul-result : goal.overflow_mul-result
overflow_mul-result c = omega (arith, start_near c.args.unit c.args.d)

pub returns-else-any-eq0 : goal.returns-else-any-eq0
returns-else-any-eq0 c = start-some _ _ _ (λ e. omega arith)
