-- What is left of the entries gives what all of them give.
use Rattle.planning.specs.ComparedLaws.{each_begin, each_end, each_stop, each_on}
use native.Mathlib.Omega.{arith}
use Rattle.fields.specs.AnswerLaws.{passed_on}
use Rattle.planning.proofs.compared.streams_in.Goals as goal

pub loop-j-init : goal.loop-j-init
loop-j-init c = each_begin

pub returns-in_err-stream_of : goal.returns-in_err-stream_of
returns-in_err-stream_of c = rw (passed_on _ _ c.from_residual.ensures) (each_stop c.loop-j.invariant
    (omega arith) c.entry_of-e.ensures
    c.stream_of.ensures c.in_err-stream_of.was)

pub loop-j-preserved : goal.loop-j-preserved
loop-j-preserved c = each_on c.loop-j.invariant
    (omega arith) c.entry_of-e.ensures
    c.stream_of.ensures c.in_ok-stream_of.was

pub returns : goal.returns
returns c = each_end c.loop-j.invariant (omega arith)
