-- As many as the room has distances, and the first; no more than there are.
use native.Mathlib.Omega.{arith}
use Rattle.base.specs.ChoiceLaws.{eq_yes, eq_no}
use Rattle.cells.specs.Spot.{run_in}
use Rattle.cells.proofs.run.run_of.Goals as goal

pub returns-then-stride-eq0 : goal.returns-then-stride-eq0
unfolding run_in
returns-then-stride-eq0 c = eq_yes _ _ _ _ c.if-stride-eq0.true c.min.ensures

pub returns-then-n-m : goal.returns-then-n-m
unfolding run_in
returns-then-n-m c = eq_no _ _ _ _ c.if-stride-eq0.false (omega arith)

pub returns : goal.returns
unfolding run_in
returns c = eq_no _ _ _ _ c.if-stride-eq0.false (omega arith)
