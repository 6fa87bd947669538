-- By the kind of the block.
use Rattle.ranges.specs.BlocksLaws.{other-kind}
use Rattle.ranges.proofs.form.is_other.Goals as goal

pub returns : goal.returns
returns c = other-kind _ _ _ c.kind_at.ensures
