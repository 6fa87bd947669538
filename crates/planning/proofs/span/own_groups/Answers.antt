-- What is left of the items gives what all of them give.
use Rattle.planning.specs.SpanLaws.{count_begin, count_end, count_stop, count_on}
use native.Mathlib.Omega.{arith}
use Rattle.planning.proofs.span.own_groups.Goals as goal

pub loop-k-init : goal.loop-k-init
loop-k-init c = count_begin

pub returns-then-mark-gt1 : goal.returns-then-mark-gt1
returns-then-mark-gt1 c = count_stop c.loop-k.invariant (omega arith) c.word-mark.ensures
    c.if-mark-gt1.true c.min-m.ensures

pub loop-k-preserved : goal.loop-k-preserved
loop-k-preserved c = count_on c.loop-k.invariant (omega arith) c.word-mark.ensures
    c.if-mark-gt1.false

pub returns : goal.returns
returns c = count_end c.loop-k.invariant (omega arith) c.min-m.ensures
