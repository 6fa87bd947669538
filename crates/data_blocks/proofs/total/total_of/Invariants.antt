-- Each turn passes a fragment that lies in the image.
use mathlib.Core.Path.{◌≡◌}
use Prim.Native.Nat.{◌-◌, ◌<◌}
use Rattle.data_blocks.specs.FilledLaws.{Totalling}
use lib.ListN.{length}
use Rattle.data_blocks.proofs.total.total_of.Given as goal

abbrev pub invariant-loop-i : goal.invariant-loop-i
invariant-loop-i l =
    Totalling l.image l.fragments l.i l.bytes × (l.n ≡ length l.fragments) × (l.size ≡ length l.image) × (l.bytes < 18446744073709551616)

abbrev pub decreases-loop-i : goal.decreases-loop-i
decreases-loop-i l = l.n - l.i
