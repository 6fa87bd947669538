-- Each return is a way through the definition's tests; the tests of the code cannot overflow.
use native.Mathlib.Omega.{arith}
use mathlib.Core.Path.{refl}
use Rattle.mdf.specs.Block.{length_in}
use Rattle.base.specs.ChoiceLaws.{lt_yes, lt_no}
use Rattle.blocks.proofs.block.length_in.Goals as goal

pub returns-then-size-lt24 : goal.returns-then-size-lt24
unfolding length_in
returns-then-size-lt24 c = lt_yes _ _ _ _ (omega arith) refl

pub returns-then-size-links : goal.returns-then-size-links
unfolding length_in
returns-then-size-links c = lt_yes _ _ _ _ (omega arith) refl

pub returns-then-most-size : goal.returns-then-most-size
unfolding length_in
returns-then-most-size c = lt_no _ _ _ _ (omega arith) (lt_yes _ _ _ _ (omega arith) refl)

pub returns-then-n-a : goal.returns-then-n-a
unfolding length_in
returns-then-n-a c = lt_no _ _ _ _ (omega arith) (lt_no _ _ _ _ (omega arith) (lt_yes _ _ _ _ (omega arith) refl))

pub returns-then-n-a-2 : goal.returns-then-n-a-2
unfolding length_in
returns-then-n-a-2 c = lt_no _ _ _ _ (omega arith) (lt_no _ _ _ _ (omega arith) (lt_yes _ _ _ _ (omega arith) refl))

pub returns : goal.returns
unfolding length_in
returns c = lt_no _ _ _ _ (omega arith) (lt_no _ _ _ _ (omega arith) (lt_no _ _ _ _ (omega arith) refl))
