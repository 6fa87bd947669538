-- The entries that are left give what all give.
use Prim.Native.Nat.{◌+◌, ◌-◌}
use mathlib.Core.Path.{◌≡◌}
use Rattle.plan.specs.Table.{entry_of}
use Rattle.choices.proofs.entry_of.Given as goal

abbrev pub invariant-loop-i : goal.invariant-loop-i
invariant-loop-i l = entry_of l.table l.t l.i (l.k + l.n - l.i) ≡ entry_of l.table l.t l.k l.n
