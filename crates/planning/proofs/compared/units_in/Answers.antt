-- What is left of the entries gives what all of them give.
use Rattle.planning.specs.ComparedLaws.{each_begin, each_end, each_stop, each_on}
use native.Mathlib.Omega.{arith}
use Rattle.fields.specs.AnswerLaws.{passed_on}
use Rattle.planning.proofs.compared.units_in.Goals as goal

pub loop-j-init : goal.loop-j-init
loop-j-init c = each_begin

pub returns-in_err-unit_of : goal.returns-in_err-unit_of
returns-in_err-unit_of c = rw (passed_on _ _ c.from_residual.ensures) (each_stop c.loop-j.invariant
    (omega arith) c.entry_of-e.ensures
    c.unit_of.ensures c.in_err-unit_of.was)

pub loop-j-preserved : goal.loop-j-preserved
loop-j-preserved c = each_on c.loop-j.invariant
    (omega arith) c.entry_of-e.ensures
    c.unit_of.ensures c.in_ok-unit_of.was

pub returns : goal.returns
returns c = each_end c.loop-j.invariant (omega arith)
