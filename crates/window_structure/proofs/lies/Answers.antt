-- They stand one after the other.
use Rattle.places.specs.FacingLaws.{not-false}
use Rattle.window_structure.proofs.lies.Goals as goal

pub returns : goal.returns
returns c = λ e. c.apart.ensures (not-false _ e)
