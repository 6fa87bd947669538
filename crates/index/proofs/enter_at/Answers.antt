-- Each test is one case of the definition.
use native.Mathlib.Omega.{arith}
use mathlib.Core.Path.{refl}
use Rattle.base.specs.ChoiceLaws.{lt_yes, lt_no, le_yes, le_no}
use Rattle.index.specs.Index.{entered}
use Rattle.index.proofs.enter_at.Goals.{then-this-gt2057-via-then-this-gt2057, then-this-gt2057-via-else-this-gt2057+then-n}
use Rattle.index.proofs.enter_at.Goals as goal

pub returns-then-this-gt2057 : goal.returns-then-this-gt2057
unfolding entered
returns-then-this-gt2057 g c =
    elim c.then-this-gt2057.branch [
      | then-this-gt2057-via-then-this-gt2057 w ↦ le_no _ _ _ _ (omega arith) refl
      | then-this-gt2057-via-else-this-gt2057+then-n w ↦ le_yes _ _ _ _ (omega arith) (lt_no _ _ _ _ (omega arith) refl)
    ]

pub returns : goal.returns
unfolding entered
returns g c = le_yes _ _ _ _ (omega arith) (lt_yes _ _ _ _ (omega arith) refl)
