-- Records without bytes sum to 0.
use Rattle.ranges.specs.FormLaws.{records_none, records_some}
use Rattle.ranges.proofs.form.hold_records.Goals as goal

pub returns-then-w-eq0 : goal.returns-then-w-eq0
returns-then-w-eq0 c = records_none _ _ _ _ c.record_bytes-w.ensures.is c.if-w-eq0.true c.sums.ensures

pub returns : goal.returns
returns c = records_some _ _ _ _ c.record_bytes-w.ensures.is c.cycles_of.ensures c.sums-2.ensures
