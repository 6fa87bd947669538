use Rattle.steps.proofs.position.name.Goals as goal

pub returns : goal.returns
returns c = rw (c.name.ensures, c.positions_of.ensures) at c.answered.ensures
