-- Without blocks nothing moves; else the next multiple.
use mathlib.Core.Path.{refl}
use Prim.Native.Nat.{◌+◌, ◌-◌}
use native.Mathlib.Nat.{div-mul-le_self}
use native.Mathlib.Omega.{arith}
use Rattle.base.specs.ChoiceLaws.{eq_yes, eq_no}
use Rattle.plan.specs.Geometry.{align_to}
use Rattle.placing.proofs.columns.first_past.Goals as goal

pub overflow_mul-result : goal.overflow_mul-result
overflow_mul-result c = let a = div-mul-le_self (c.args.d + (c.args.unit - 1)) c.args.unit in omega arith

pub returns-then-count-eq0 : goal.returns-then-count-eq0
returns-then-count-eq0 c = eq_yes _ _ _ _ (omega arith) refl

pub returns-else-count-eq0 : goal.returns-else-count-eq0
unfolding align_to
returns-else-count-eq0 c = eq_no _ _ _ _ (λ e. omega arith) refl
