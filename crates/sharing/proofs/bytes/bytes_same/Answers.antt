-- Equal slices.
use Rattle.sharing.specs.BytesLaws.{slices-same}
use Rattle.sharing.proofs.bytes.bytes_same.Goals as goal

pub returns : goal.returns
returns c = slices-same _ _ _ _ c.eq.ensures
