-- The field of the data is the definition's.
use Rattle.plan.specs.Channel.{channel_flags}
use Rattle.channels.specs.ChannelLaws.{field_small}
use Rattle.channels.proofs.channel_flags.Goals as goal

pub returns : goal.returns
unfolding channel_flags
returns c = field_small c.data_field.ensures
