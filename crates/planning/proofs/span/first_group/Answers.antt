-- What is left of the items gives what all of them give.
use Rattle.planning.specs.SpanLaws.{seek_begin, seek_end, seek_stop, seek_hit, seek_on}
use native.Mathlib.Omega.{arith}
use Rattle.planning.proofs.span.first_group.Goals as goal

pub loop-k-init : goal.loop-k-init
loop-k-init c = seek_begin

pub returns-then-mark-gt1 : goal.returns-then-mark-gt1
returns-then-mark-gt1 c = seek_stop c.loop-k.invariant (omega arith) c.word-mark.ensures
    c.if-mark-gt1.true c.min-m.ensures

pub returns-then-mark-eq1 : goal.returns-then-mark-eq1
returns-then-mark-eq1 c = seek_hit c.loop-k.invariant
    (omega arith) c.word-mark.ensures c.if-mark-eq1.true
    c.word.ensures c.min-m.ensures

pub loop-k-preserved : goal.loop-k-preserved
loop-k-preserved c = seek_on c.loop-k.invariant (omega arith)
    c.word-mark.ensures c.if-mark-gt1.false c.if-mark-eq1.false

pub returns : goal.returns
returns c = seek_end c.loop-k.invariant (omega arith) c.min-m.ensures
