-- The seventh link leads to the unit.
use Rattle.result.specs.Sharing.{unit_of}
use Rattle.sharing.proofs.text.unit_in.Goals as goal

pub returns : goal.returns
unfolding unit_of
returns c = rw (← c.link_at.ensures) c.name_at.ensures
