-- The field of the data is the definition's.
use Rattle.mdf.specs.Group.{samples}
use Rattle.channels.specs.ChannelLaws.{field_small}
use Rattle.channels.proofs.samples_of.Goals as goal

pub returns : goal.returns
unfolding samples
returns c = field_small c.data_field.ensures
