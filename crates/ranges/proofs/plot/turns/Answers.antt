use mathlib.Core.Path.{refl}
use native.Mathlib.Omega.{arith}
use Rattle.base.specs.ChoiceLaws.{le_yes, le_no}
use Rattle.ranges.specs.Turn.{turns_of}
use Rattle.ranges.proofs.plot.turns.Goals as goal

pub returns-then-n-le256 : goal.returns-then-n-le256
unfolding turns_of
returns-then-n-le256 c = le_yes _ _ _ _ (omega arith) refl

pub returns-else-n-le256 : goal.returns-else-n-le256
unfolding turns_of
returns-else-n-le256 c = le_no _ _ _ _ (omega arith) refl
