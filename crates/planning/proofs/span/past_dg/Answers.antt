-- What is left of the items gives what all of them give.
use Rattle.planning.specs.SpanLaws.{go_begin, go_end, go_other, go_on, go_hit}
use native.Mathlib.Omega.{arith}
use mathlib.Core.Path.{refl}
use Rattle.planning.proofs.span.past_dg.Goals.{then-mark-gt1+else-word-d, else-mark-gt1}
use Rattle.planning.proofs.span.past_dg.Goals as goal

pub loop-k-init : goal.loop-k-init
loop-k-init c = go_begin

pub returns-then-word-d : goal.returns-then-word-d
returns-then-word-d c = go_hit c.loop-k.invariant (omega arith) c.word-mark.ensures c.word.ensures c.if-mark-gt1.true c.if-word-d.true c.min-m.ensures

pub loop-k-preserved : goal.loop-k-preserved
loop-k-preserved c =
    elim c.if-mark-gt1.branch [
      | then-mark-gt1+else-word-d w ↦ rw w.groups-is (go_other c.loop-k.invariant (omega arith) c.word-mark.ensures w.word.ensures w.if-mark-gt1.true w.if-word-d.false)
      | else-mark-gt1 w ↦ rw w.groups-is (go_on c.loop-k.invariant (omega arith) c.word-mark.ensures refl w.if-mark-gt1.false)
    ]

pub returns : goal.returns
returns c = go_end c.loop-k.invariant (omega arith) c.min-m.ensures
