-- The invalidation bytes are the 32-bit field at data byte 28.
use Rattle.records.specs.GroupLaws.{inval_is}
use Rattle.records.proofs.group.inval_bytes.Goals as goal

pub returns : goal.returns
returns c = record { is = inval_is _ _ c.data_field.ensures.is; small = c.data_field.ensures.small }
