-- The group is VLSD storage by bit 0 of its flags.
use Rattle.records.specs.GroupLaws.{storage_is}
use Rattle.records.proofs.group.is_storage.Goals as goal

pub returns : goal.returns
returns c = storage_is _ _ c.data_field.ensures.is
