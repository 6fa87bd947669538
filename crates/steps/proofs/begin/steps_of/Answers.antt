use native.Mathlib.Omega.{arith}
use Rattle.steps.specs.StepsLaws.{steps_by}
use Rattle.steps.proofs.begin.steps_of.Goals as goal

pub returns : goal.returns
returns c = omega (arith, steps_by c.args.size)
