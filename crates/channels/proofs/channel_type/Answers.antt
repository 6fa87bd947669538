-- The field of the data is the definition's.
use Rattle.plan.specs.Channel.{channel_type}
use Rattle.channels.specs.ChannelLaws.{field_first}
use Rattle.channels.proofs.channel_type.Goals as goal

pub returns : goal.returns
unfolding channel_type
returns c = field_first _ c.data_field.ensures
