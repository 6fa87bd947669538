-- The data bytes are the 32-bit field at data byte 24.
use Rattle.records.specs.GroupLaws.{samples_is}
use Rattle.records.proofs.group.samples_of.Goals as goal

pub returns : goal.returns
returns c = record { is = samples_is _ _ c.data_field.ensures.is; small = c.data_field.ensures.small }
