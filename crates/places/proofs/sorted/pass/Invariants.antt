-- Each turn passes a fragment of the kind, and its bytes are added.
use mathlib.Core.Path.{◌≡◌}
use Prim.Native.Nat.{◌-◌, ◌≤◌}
use Rattle.records.specs.Straddle.{kind_if}
use Rattle.places.specs.RunLaws.{Passing}
use lib.ListN.{length}
use Rattle.places.proofs.sorted.pass.Given as goal

abbrev pub invariant-loop-i : goal.invariant-loop-i
invariant-loop-i l = Passing l.fragments (kind_if l.dv) l.at l.i l.bytes × (l.n ≡ length l.fragments) × (l.bytes ≤ 18446744073709551615)

abbrev pub decreases-loop-i : goal.decreases-loop-i
decreases-loop-i l = l.n - l.i
