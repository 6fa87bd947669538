-- What is left of the columns gives what all of them give.
use Rattle.planning.specs.DataWordsLaws.{signals_begin, signals_end, signals_stop, signals_on}
use native.Mathlib.Omega.{arith}
use Rattle.fields.specs.AnswerLaws.{passed_on}
use Rattle.planning.proofs.data.signals_in.Goals as goal

pub loop-k-init : goal.loop-k-init
loop-k-init c = signals_begin

pub returns-in_err-signal_in : goal.returns-in_err-signal_in
returns-in_err-signal_in c = rw (passed_on _ _ c.from_residual.ensures) (signals_stop c.loop-k.invariant
    (omega arith) c.signal_in.ensures
    c.in_err-signal_in.was)

pub loop-k-preserved : goal.loop-k-preserved
loop-k-preserved c = signals_on c.loop-k.invariant (omega arith)
    c.signal_in.ensures c.in_ok-signal_in.was

pub returns : goal.returns
returns c = signals_end c.loop-k.invariant (omega arith)
