-- What is left of the items gives what all of them give.
use Rattle.planning.specs.SpanLaws.{count_begin, count_end, count_stop, count_on, end_begin, end_end, end_stop, end_on}
use native.Mathlib.Omega.{arith}
use Rattle.planning.proofs.span.rest_of.Goals as goal

pub loop-k-init : goal.loop-k-init
loop-k-init c = (count_begin, end_begin)

pub returns-then-mark-gt1 : goal.returns-then-mark-gt1
returns-then-mark-gt1 c = (
  count_stop c.loop-k.invariant.0 (omega arith) c.word-mark.ensures c.if-mark-gt1.true c.min-m.ensures,
  end_stop c.loop-k.invariant.1 (omega arith) c.word-mark.ensures c.if-mark-gt1.true c.min-m.ensures,
)

pub loop-k-preserved : goal.loop-k-preserved
loop-k-preserved c = (count_on c.loop-k.invariant.0 (omega arith) c.word-mark.ensures c.if-mark-gt1.false, end_on c.loop-k.invariant.1 (omega arith) c.word-mark.ensures c.if-mark-gt1.false)

pub returns : goal.returns
returns c = (count_end c.loop-k.invariant.0 (omega arith) c.min-m.ensures, end_end c.loop-k.invariant.1 (omega arith) c.min-m.ensures)
