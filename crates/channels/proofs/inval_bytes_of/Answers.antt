-- The field of the data is the definition's.
use Rattle.mdf.specs.Group.{inval_bytes}
use Rattle.channels.specs.ChannelLaws.{field_small}
use Rattle.channels.proofs.inval_bytes_of.Goals as goal

pub returns : goal.returns
unfolding inval_bytes
returns c = field_small c.data_field.ensures
