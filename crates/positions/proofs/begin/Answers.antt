use Rattle.std.proofs.Common.{refl}
use Rattle.positions.specs.Held.{held_from}
use Rattle.positions.proofs.begin.Goals as goal

pub returns : goal.returns
unfolding held_from
returns c = refl
