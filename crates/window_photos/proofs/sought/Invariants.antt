-- The attachments that are left give what all give.
use Prim.Native.Nat.{◌+◌, ◌*◌, ◌-◌}
use Rattle.window_photos.specs.SeekLaws.{Seeking}
use Rattle.window_photos.proofs.sought.Given as goal

abbrev pub invariant-loop-i : goal.invariant-loop-i
invariant-loop-i l = Seeking l.memo l.metadata l.attached l.a (4100 + 3 * l.i) (l.attached - l.i)
