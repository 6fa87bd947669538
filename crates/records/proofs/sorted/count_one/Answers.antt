-- The bytes of each kind, then the sum of the two counts; a refusal is passed on.
use Rattle.fields.specs.AnswerLaws.{passed_on}
use Rattle.records.specs.CountLaws.{one-dt, one-dv, one_count, so_over, so_counted, quotient-at}
use Rattle.records.proofs.sorted.count_one.Goals as goal

pub returns-in_err-dt : goal.returns-in_err-dt
returns-in_err-dt c = rw (passed_on _ _ c.from_residual.ensures) (one-dt _ _ _ _ (so_over c.bytes_of.ensures c.in_err-dt.was))

pub returns-in_err-dv : goal.returns-in_err-dv
returns-in_err-dv c =
    rw (passed_on _ _ c.from_residual-in_err-dv.ensures)
    (one-dv _ _ _ _ (so_counted c.bytes_of.ensures c.in_ok-dt.was) (so_over c.bytes_of-2.ensures c.in_err-dv.was))

pub returns : goal.returns
returns c =
    one_count _ _ _ _ (so_counted c.bytes_of.ensures c.in_ok-dt.was) (so_counted c.bytes_of-2.ensures c.in_ok-dv.was)
    (quotient-at _ _ c.quotient_of-whole.ensures c.record_size.ensures.is)
    (quotient-at _ _ c.quotient_of.ensures c.record_size-2.ensures.is) c.sum_within.ensures
