use Rattle.steps.proofs.begin.begun.Goals as goal

pub returns : goal.returns
returns c = rw c.steps_of.ensures
