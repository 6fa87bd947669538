-- What is left of the items gives what all of them give.
use Rattle.planning.specs.DataWordsLaws.{all_begin, all_end, all-other, all_stop, all-on}
use native.Mathlib.Omega.{arith}
use Rattle.fields.specs.AnswerLaws.{passed_on}
use Rattle.planning.proofs.data.all_data_in.Goals.{then-mark-gt1+in_ok-data_in, else-mark-gt1}
use Rattle.planning.proofs.data.all_data_in.Goals as goal

pub loop-i-init : goal.loop-i-init
loop-i-init c = all_begin

pub returns-in_err-data_in : goal.returns-in_err-data_in
returns-in_err-data_in c = rw (passed_on _ _ c.from_residual.ensures) (all_stop c.loop-i.invariant
    (omega arith)
    c.word-mark.ensures
    c.word-d.ensures c.if-mark-gt1.true
    c.data_in.ensures c.in_err-data_in.was)

pub loop-i-preserved : goal.loop-i-preserved
loop-i-preserved c =
    elim c.if-mark-gt1.branch [
      | then-mark-gt1+in_ok-data_in w ↦ all-on c.loop-i.invariant (omega arith) c.word-mark.ensures c.word-d.ensures w.if-mark-gt1.true w.data_in.ensures w.in_ok-data_in.was
      | else-mark-gt1 w ↦ all-other c.loop-i.invariant (omega arith) c.word-mark.ensures c.word-d.ensures w.if-mark-gt1.false
    ]

pub returns : goal.returns
returns c = all_end c.loop-i.invariant (omega arith)
