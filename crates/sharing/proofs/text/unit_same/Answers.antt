-- The seventh links lead to the units.
use Rattle.result.specs.Sharing.{unit_of}
use Rattle.sharing.proofs.text.unit_same.Goals as goal

pub returns : goal.returns
unfolding unit_of
returns c = rw (← c.link_at.ensures, ← c.link_at-2.ensures) c.text_same.ensures
