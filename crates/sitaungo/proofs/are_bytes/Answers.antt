-- What was read from a slice is a byte, and so are the others.
use Rattle.writing.specs.FinishLaws.{none-bytes}
use native.Mathlib.Omega.{arith}
use borrow.Author.Rules.{rules}
use Rattle.sitaungo.proofs.are_bytes.Goals as goal

pub returns-then-s-gt0 : goal.returns-then-s-gt0
returns-then-s-gt0 c = record { all = λ i. omega (arith, c.type_inv.s i) }

pub returns-else-s-gt0 : goal.returns-else-s-gt0
returns-else-s-gt0 c = none-bytes _ c.if-s-gt0.false
