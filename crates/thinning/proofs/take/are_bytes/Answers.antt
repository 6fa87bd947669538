-- What was read from the image is a byte, and so are the others.
use Rattle.thinning.specs.TakeLaws.{none-bytes}
use native.Mathlib.Omega.{arith}
use borrow.Author.Rules.{rules}
use Rattle.thinning.proofs.take.are_bytes.Goals as goal

pub returns-then-image-gt0 : goal.returns-then-image-gt0
returns-then-image-gt0 c = record { all = λ i. omega (arith, c.type_inv.image i) }

pub returns-else-image-gt0 : goal.returns-else-image-gt0
returns-else-image-gt0 c = none-bytes _ c.if-image-gt0.false
