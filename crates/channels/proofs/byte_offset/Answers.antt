-- The field of the data is the definition's.
use Rattle.plan.specs.Channel.{byte_offset}
use Rattle.channels.specs.ChannelLaws.{field_small}
use Rattle.channels.proofs.byte_offset.Goals as goal

pub returns : goal.returns
unfolding byte_offset
returns c = field_small c.data_field.ensures
