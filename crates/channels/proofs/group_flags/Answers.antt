-- The field of the data is the definition's.
use Rattle.mdf.specs.Group.{group_flags}
use Rattle.channels.specs.ChannelLaws.{field_small}
use Rattle.channels.proofs.group_flags.Goals as goal

pub returns : goal.returns
unfolding group_flags
returns c = field_small c.data_field.ensures
