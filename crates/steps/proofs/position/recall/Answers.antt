use Rattle.steps.proofs.position.recall.Goals as goal

pub returns : goal.returns
returns c = rw (c.recall.ensures, c.positions_of.ensures) at c.answered.ensures
