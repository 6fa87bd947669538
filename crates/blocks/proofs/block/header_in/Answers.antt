-- Both refusals say that 24 bytes from a on run past the image.
use mathlib.Core.Path.{refl}
use Rattle.mdf.specs.Block.{header_in}
use Rattle.base.specs.ChoiceLaws.{le_yes, le_no}
use native.Mathlib.Omega.{arith}
use Rattle.blocks.proofs.block.header_in.Goals as goal

pub returns-then-n-a : goal.returns-then-n-a
unfolding header_in
returns-then-n-a c = le_no _ _ _ _ (omega arith) refl

pub returns-then-n-a-lt24 : goal.returns-then-n-a-lt24
unfolding header_in
returns-then-n-a-lt24 c = le_no _ _ _ _ (omega arith) refl

pub returns : goal.returns
unfolding header_in
returns c = le_yes _ _ _ _ (omega arith) refl
