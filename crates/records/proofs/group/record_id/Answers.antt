-- The record id is the 64-bit field at data byte 0.
use Rattle.records.specs.GroupLaws.{record_id_is}
use Rattle.records.proofs.group.record_id.Goals as goal

pub returns : goal.returns
returns c = record_id_is _ _ c.data_field.ensures.is
