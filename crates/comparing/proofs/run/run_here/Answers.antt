-- A run of those that lie in the fragment.
use Rattle.comparing.specs.RunLaws.{run_none, run-here}
use native.Mathlib.Omega.{arith}
use Rattle.cells.specs.SpotLaws.{run_counted}
use Rattle.comparing.proofs.run.run_here.Goals as goal

pub returns-then-n-eq0 : goal.returns-then-n-eq0
returns-then-n-eq0 c = run_none _ _ _ _ _

pub overflow_sub-k : goal.overflow_sub-k
overflow_sub-k c = (c.lies_here.ensures.0 c.if-not-lies_here.false).0

pub returns : goal.returns
returns c = let y = c.lies_here.ensures.0 c.if-not-lies_here.false in run-here y.0 y.1 (run_counted _ _ _ (omega arith) c.run_of.ensures)
