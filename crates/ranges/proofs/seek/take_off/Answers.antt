-- By the quotient and the remainder.
use Rattle.std.proofs.Common.{arith}
use Rattle.ranges.specs.SeekLaws.{off-few, off_whole, off_just, off_part}
use Rattle.ranges.proofs.seek.take_off.Goals as goal

pub returns-then-left-q : goal.returns-then-left-q
returns-then-left-q c = off-few _ _ _ _ (omega arith) (omega arith)

pub returns-then-r-off : goal.returns-then-r-off
returns-then-r-off c = off_whole _ _ _ _ (omega arith) (omega arith) (omega arith)

pub returns-then-left-q-2 : goal.returns-then-left-q-2
returns-then-left-q-2 c = off_just _ _ _ _ (omega arith) (omega arith) (omega arith) (omega arith)

pub returns : goal.returns
returns c = off_part _ _ _ _ (omega arith) (omega arith) (omega arith)
