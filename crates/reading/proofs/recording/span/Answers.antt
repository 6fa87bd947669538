-- What was passed and what is left give the whole.
use native.Mathlib.Omega.{arith}
use mathlib.Core.Path.{◌≡◌}
use Rattle.reading.specs.SpanLaws.{span_stop, span_on, span_end}
use Rattle.reading.proofs.recording.span.Goals as goal

pub returns-then-mark-gt1 : goal.returns-then-mark-gt1
returns-then-mark-gt1 c = span_stop c.loop-next.invariant (omega arith) c.if-mark-gt1.true

pub loop-next-preserved : goal.loop-next-preserved
loop-next-preserved c = span_on c.loop-next.invariant (omega arith) c.if-mark-gt1.false

pub returns : goal.returns
returns c =
    let h = c.loop-next.invariant.within in
    let e : c.loop-next.next ≡ c.args.n = omega arith in
    rw e at (span_end c.loop-next.invariant (omega arith))
