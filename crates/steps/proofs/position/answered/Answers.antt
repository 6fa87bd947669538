use Rattle.std.proofs.Common.{refl}
use Rattle.steps.specs.StepsLaws.{moved_as}
use Rattle.steps.proofs.position.answered.Goals as goal

pub returns-in-Ok : goal.returns-in-Ok
returns-in-Ok c = rw (c.in-Ok.is, c.at_positions.ensures) (refl, moved_as c.args.k c.in-Ok.p, refl)

pub returns-in-Err : goal.returns-in-Err
returns-in-Err c = rw c.in-Err.is (c.number.ensures, refl)
