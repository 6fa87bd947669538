-- The flag is that of the definition.
use Rattle.channels.specs.ChannelLaws.{storage_is}
use Rattle.channels.proofs.is_storage.Goals as goal

pub returns : goal.returns
returns c = storage_is _ _ c.group_flags.ensures.is
