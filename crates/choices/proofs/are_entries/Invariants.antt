-- The entries that are left give what all give.
use Prim.Native.Nat.{◌-◌}
use mathlib.Core.Path.{◌≡◌}
use Rattle.plan.specs.Table.{are_entries}
use Rattle.choices.proofs.are_entries.Given as goal

abbrev pub invariant-loop-k : goal.invariant-loop-k
invariant-loop-k l = are_entries l.table l.k (l.n - l.k) ≡ are_entries l.table 0 l.n
