-- The field of the data is the definition's.
use Rattle.plan.specs.Channel.{inval_position}
use Rattle.channels.specs.ChannelLaws.{field_small}
use Rattle.channels.proofs.inval_position.Goals as goal

pub returns : goal.returns
unfolding inval_position
returns c = field_small c.data_field.ensures
