use Rattle.writing.specs.FinishLaws.{none-bytes}
use Rattle.std.proofs.Common.{arith, rules}
use Rattle.writing.proofs.convert.are_bytes.Goals as goal

-- src/convert.rt:32:1
pub returns-then-image-gt0 : goal.returns-then-image-gt0
returns-then-image-gt0 c = record { all = λ i. omega (arith, c.type_inv.image i) }

-- src/convert.rt:32:1
pub returns-else-image-gt0 : goal.returns-else-image-gt0
returns-else-image-gt0 c = none-bytes _ c.if-image-gt0.false
