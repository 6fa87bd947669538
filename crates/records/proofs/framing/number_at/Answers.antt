-- The bytes from index i on were taken, the highest first.
use Rattle.records.specs.FrameLaws.{number-start, number_big, number_more, number_done}
use native.Mathlib.Omega.{arith}
use Rattle.records.proofs.framing.number_at.Goals as goal

pub loop-i-init : goal.loop-i-init
loop-i-init c = (omega arith, omega arith, number-start _ _)

pub returns-then-x-gt72057594037927935 : goal.returns-then-x-gt72057594037927935
returns-then-x-gt72057594037927935 c = number_big _ _ _ c.loop-i.invariant.2 c.loop-i.invariant.0 c.loop-i-test.true
    c.if-x-gt72057594037927935.true

pub overflow_add-x : goal.overflow_add-x
overflow_add-x c = let b = c.byte_at.ensures.small in omega arith

pub loop-i-preserved : goal.loop-i-preserved
loop-i-preserved c = (
  omega arith,
  (let b = c.byte_at.ensures.small in omega arith),
  number_more _ _ _ c.loop-i.invariant.2
      c.loop-i.invariant.0 c.loop-i-test.true c.byte_at.ensures.is,
)

pub returns : goal.returns
returns c = number_done _ _ _ c.loop-i.invariant.2 c.loop-i.invariant.0 (omega arith) c.loop-i.invariant.1
