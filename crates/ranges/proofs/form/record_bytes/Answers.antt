-- The sum of two fields.
use Rattle.ranges.specs.FormLaws.{bytes_is}
use Rattle.ranges.proofs.form.record_bytes.Goals as goal

pub returns : goal.returns
returns c = bytes_is _ _ c.samples_of.ensures c.inval_bytes.ensures
