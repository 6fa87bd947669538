-- By division.
use Rattle.std.proofs.Common.{arith, ◌∙◌, eq-eqb}
use Rattle.ranges.specs.EntryLaws.{lie_past, lie_none, lie_some}
use Rattle.ranges.proofs.plot.lie.Goals as goal

pub returns-then-n-place : goal.returns-then-n-place
returns-then-n-place c = lie_past _ _ _ _ c.if-n-place.true

pub returns-then-w-eq0 : goal.returns-then-w-eq0
returns-then-w-eq0 c = eq-eqb _ _ c.if-w-eq0.true ∙ lie_none _ _ _ _ c.if-n-place.false c.if-w-eq0.true

pub returns-else-w-eq0 : goal.returns-else-w-eq0
returns-else-w-eq0 c = lie_some c.args.n c.args.place c.args.count c.args.w (omega arith) (omega arith)
