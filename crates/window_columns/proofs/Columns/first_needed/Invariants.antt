use Rattle.std.proofs.Common.{◌-◌, ◌≤◌}
use Rattle.window_columns.proofs.Columns.first_needed.Given as goal

abbrev pub invariant-loop-k : goal.invariant-loop-k
invariant-loop-k l = l.k ≤ l.self.number - 1

abbrev pub decreases-loop-k : goal.decreases-loop-k
decreases-loop-k l = l.k
