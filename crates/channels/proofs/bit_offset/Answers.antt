-- The field of the data is the definition's.
use Rattle.plan.specs.Channel.{bit_offset}
use Rattle.channels.specs.ChannelLaws.{field_small}
use Rattle.channels.proofs.bit_offset.Goals as goal

pub returns : goal.returns
unfolding bit_offset
returns c = field_small c.data_field.ensures
