-- The sum fits, and its multiple of 8 is the definition's.
use mathlib.Core.Path.{refl}
use native.Mathlib.Omega.{arith}
use Rattle.plan.specs.Geometry.{align8}
use Rattle.copier.proofs.memo.aligned.Goals as goal

pub returns-then-x-gt9223372036854775807 : goal.returns-then-x-gt9223372036854775807
returns-then-x-gt9223372036854775807 c = λ h. absurd (omega arith)

pub returns : goal.returns
unfolding align8
returns c = λ h. refl
