-- As the definition has it.
use Rattle.comparing.proofs.head.head_begin.Goals as goal

pub returns : goal.returns
returns c = rw c.begin-spot.ensures
