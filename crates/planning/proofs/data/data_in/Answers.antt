-- Records where a column has bytes, then signal data.
use Rattle.planning.specs.DataWordsLaws.{data_empty, data_stop, data_on}
use Rattle.fields.specs.AnswerLaws.{passed_on}
use Rattle.planning.proofs.data.data_in.Goals.{then-any_nonempty+in_ok-records_of, else-any_nonempty}
use Rattle.planning.proofs.data.data_in.Goals as goal

pub returns-in_err-records_of : goal.returns-in_err-records_of
returns-in_err-records_of c = rw (passed_on _ _ c.from_residual.ensures) (data_stop _ _ _ _ _ _ _ _ c.any_nonempty.ensures
    c.if-any_nonempty.true c.records_of.ensures c.in_err-records_of.was)

pub returns : goal.returns
returns c =
    elim c.if-any_nonempty.branch [
      | then-any_nonempty+in_ok-records_of w ↦ data_on _ _ _ _ _ _ _ _ c.any_nonempty.ensures w.if-any_nonempty.true w.records_of.ensures w.in_ok-records_of.was c.signals_in.ensures
      | else-any_nonempty w ↦ data_empty _ _ _ _ _ _ _ _ c.any_nonempty.ensures w.if-any_nonempty.false c.signals_in.ensures
    ]
