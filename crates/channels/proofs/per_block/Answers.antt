-- A width of 0 leaves the step, 1; else it is the larger of the step and of what fits, which is at most the block size.
use native.Mathlib.Omega.{arith}
use mathlib.Core.Path.{◌∙◌}
use Rattle.channels.specs.GeometryLaws.{step_pos, per_none, per_larger}
use Rattle.channels.proofs.per_block.Goals as goal

pub returns-then-w-eq0 : goal.returns-then-w-eq0
returns-then-w-eq0 c = per_none _ _ (omega arith)

pub nonzero_div-size-2 : goal.nonzero_div-size-2
nonzero_div-size-2 c = omega (arith, step_pos _ c.step_of-step.ensures.is)

pub returns : goal.returns
returns c = c.max.ensures ∙ per_larger _ _ c.step_of-step.ensures.is
