-- The id size is the first data byte.
use Rattle.records.specs.GroupLaws.{id_size_is}
use Rattle.records.proofs.group.id_size.Goals as goal

pub returns : goal.returns
returns c = record { is = id_size_is _ _ c.data_field.ensures.is; small = c.data_field.ensures.small }
