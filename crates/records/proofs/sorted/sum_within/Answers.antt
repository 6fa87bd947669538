-- The sum is tested as it is made.
use Rattle.records.specs.CountLaws.{sum_tested}
use Rattle.records.proofs.sorted.sum_within.Goals as goal

pub returns : goal.returns
returns c = sum_tested _ _ c.checked_add.result c.checked_add.ensures c.ok_or.ensures.value
