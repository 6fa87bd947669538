-- The attachments that are left give what all give.
use Prim.Native.Nat.{◌+◌, ◌*◌, ◌-◌}
use mathlib.Core.Path.{◌≡◌}
use Rattle.copier.specs.Attaching.{attached_in}
use Rattle.copier.proofs.attachments.is_attached.Given as goal

abbrev pub invariant-loop-i : goal.invariant-loop-i
invariant-loop-i l = attached_in l.memo (4100 + 3 * l.i) (l.count - l.i) l.a ≡ attached_in l.memo 4100 l.count l.a
