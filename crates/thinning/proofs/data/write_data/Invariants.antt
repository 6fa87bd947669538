-- Each turn writes a column's blocks and SD.
use Prim.Native.Nat.{◌-◌}
use native.Mathlib.Omega.{arith}
use Rattle.thinning.specs.DataLaws.{Writing, writing_begin, column-room, writing_on, writing_end}
use borrow.Author.Rules.{rules}
use Rattle.thinning.proofs.data.write_data.Given as goal

abbrev pub invariant-loop-k : goal.invariant-loop-k
invariant-loop-k l = Writing l.file.image.now l.file.columns.now l.file.memo.now l.file.numbers.columns l.at l.initial.out l.k l.p l.out
