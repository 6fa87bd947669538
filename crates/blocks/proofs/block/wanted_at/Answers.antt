-- Each return is a way through the definition's tests; the tests of the code cannot overflow.
use native.Mathlib.Omega.{arith}
use mathlib.Core.Path.{refl}
use Rattle.mdf.specs.Block.{wanted_at}
use Rattle.base.specs.ChoiceLaws.{lt_yes, lt_no, eq_yes, eq_no}
use Rattle.blocks.proofs.block.wanted_at.Goals as goal

pub returns-then-kind_at-want : goal.returns-then-kind_at-want
unfolding wanted_at
returns-then-kind_at-want c = eq_no _ _ _ _ (omega arith) refl

pub returns-then-has-want : goal.returns-then-has-want
unfolding wanted_at
returns-then-has-want c = eq_yes _ _ _ _ (omega arith) (lt_yes _ _ _ _ (omega arith) refl)

pub returns-then-size-lt24 : goal.returns-then-size-lt24
unfolding wanted_at
returns-then-size-lt24 c = eq_yes _ _ _ _ (omega arith) (lt_no _ _ _ _ (omega arith) (lt_yes _ _ _ _ (omega arith) refl))

pub returns-then-size-has : goal.returns-then-size-has
unfolding wanted_at
returns-then-size-has c = eq_yes _ _ _ _ (omega arith) (lt_no _ _ _ _ (omega arith) (lt_yes _ _ _ _ (omega arith) refl))

pub returns-then-size-has-2 : goal.returns-then-size-has-2
unfolding wanted_at
returns-then-size-has-2 c = eq_yes _ _ _ _ (omega arith) (lt_no _ _ _ _ (omega arith) (lt_yes _ _ _ _ (omega arith) refl))

pub returns : goal.returns
unfolding wanted_at
returns c = eq_yes _ _ _ _ (omega arith) (lt_no _ _ _ _ (omega arith) (lt_no _ _ _ _ (omega arith) refl))
