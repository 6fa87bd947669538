-- Each turn passes a fragment without bytes.
use Prim.Native.Nat.{◌-◌}
use mathlib.Core.Path.{◌≡◌}
use Rattle.records.specs.Ahead.{fragments_from}
use Rattle.places.specs.Run.{with_bytes}
use lib.ListN.{length}
use Rattle.places.proofs.sorted.some_from.Given as goal

abbrev pub invariant-loop-i : goal.invariant-loop-i
invariant-loop-i l = (with_bytes (fragments_from l.fragments l.i) ≡ with_bytes (fragments_from l.fragments l.at)) × (l.n ≡ length l.fragments)

abbrev pub decreases-loop-i : goal.decreases-loop-i
decreases-loop-i l = l.n - l.i
