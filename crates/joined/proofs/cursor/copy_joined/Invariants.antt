-- Each turn passes on to the next fragment, or copies what is left of one. Where no fragment follows, there were fewer bytes.
use Prim.Native.Nat.{◌+◌, ◌-◌, ◌≤◌}
use mathlib.Core.Path.{◌≡◌}
use lib.ListN.{length, take}
use Rattle.base.specs.Blit.{blit}
use Rattle.base.specs.Checked.{fine}
use Rattle.mdf.specs.Records.{ranges_in, joined, size_of}
use Rattle.joined.specs.Ahead.{ahead}
use Rattle.joined.specs.AheadLaws.{Copying}
use Rattle.joined.proofs.cursor.copy_joined.Given as goal

abbrev pub invariant-loop-left : goal.invariant-loop-left
invariant-loop-left l =
    (ranges_in l.image (ahead l.fragments l.initial.k) ≡ fine → l.w ≤ size_of (ahead l.fragments l.initial.k)
    → Copying l.image l.fragments l.k l.left l.to l.out (blit l.at (take l.w (joined l.image (ahead l.fragments l.initial.k))) l.initial.out))
    × (l.to + l.left ≤ length l.out) × (length l.out ≡ length l.initial.out)

abbrev pub decreases-loop-left : goal.decreases-loop-left
decreases-loop-left l = l.left + (length l.fragments - l.k.at)
