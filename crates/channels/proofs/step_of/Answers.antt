-- The trailing zeros, capped at three, give the step.
use native.Mathlib.Omega.{arith}
use mathlib.Core.Path.{refl}
use Rattle.base.specs.ChoiceLaws.{eq_yes, eq_no}
use Rattle.channels.specs.GeometryLaws.{capped, step-zeros}
use Rattle.channels.proofs.step_of.Goals as goal

pub returns-in-0 : goal.returns-in-0
unfolding capped
returns-in-0 c = record { is = step-zeros 61 _ (eq_yes _ _ _ _ (omega arith) refl); small = omega arith }

pub returns-in-1 : goal.returns-in-1
unfolding capped
returns-in-1 c = record {
  is = step-zeros 61 _ (eq_no _ _ _ _ (omega arith) (eq_yes _ _ _ _ (omega arith) refl));
  small = omega
      arith;
}

pub returns-in-2 : goal.returns-in-2
unfolding capped
returns-in-2 c = record {
  is = step-zeros 61 _ (eq_no _ _ _ _ (omega arith) (eq_no _ _ _ _ (omega arith) (eq_yes _ _ _ _ (omega arith) refl)));
  small = omega arith;
}

pub returns-in_default : goal.returns-in_default
unfolding capped
returns-in_default c = record {
  is = step-zeros 61 _ (eq_no _ _ _ _ (omega arith) (eq_no _ _ _ _ (omega arith) (eq_no _ _ _ _ (omega arith) refl)));
  small = omega arith;
}
