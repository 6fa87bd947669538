use Rattle.std.proofs.Common.{◌-◌, ◌≤◌}
use Rattle.window_columns.proofs.Columns.near.Given as goal

abbrev pub invariant-loop-low : goal.invariant-loop-low
invariant-loop-low l = (l.low ≤ l.self.number - 1) × (l.high ≤ l.self.number)

abbrev pub decreases-loop-low : goal.decreases-loop-low
decreases-loop-low l = l.high - l.low
