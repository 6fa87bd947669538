use Prim.Native.Nat.{◌-◌, ◌≤◌}
use Rattle.window_structure.specs.Laying.{Begun}
use Rattle.window_structure.proofs.near.Given as goal

abbrev pub invariant-loop-low : goal.invariant-loop-low
invariant-loop-low l = Begun l.memo l.n l.a l.low × (l.low ≤ l.n) × (l.high ≤ l.n)

abbrev pub decreases-loop-low : goal.decreases-loop-low
decreases-loop-low l = l.high - l.low
