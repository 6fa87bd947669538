-- What is left of the items gives what all of them give.
use Rattle.planning.specs.SpanLaws.{end_begin, end_end, end_stop, end_on}
use native.Mathlib.Omega.{arith}
use Rattle.planning.proofs.span.end_of.Goals as goal

pub loop-k-init : goal.loop-k-init
loop-k-init c = end_begin

pub returns-then-mark-gt1 : goal.returns-then-mark-gt1
returns-then-mark-gt1 c = end_stop c.loop-k.invariant (omega arith) c.word-mark.ensures
    c.if-mark-gt1.true c.min-m.ensures

pub loop-k-preserved : goal.loop-k-preserved
loop-k-preserved c = end_on c.loop-k.invariant (omega arith) c.word-mark.ensures
    c.if-mark-gt1.false

pub returns : goal.returns
returns c = end_end c.loop-k.invariant (omega arith) c.min-m.ensures
