-- The attachments that are left give what all give.
use Prim.Native.Nat.{◌+◌, ◌*◌, ◌-◌}
use mathlib.Core.Path.{◌≡◌}
use native.Mathlib.Omega.{arith}
use Rattle.copier.specs.AttachingLaws.{attached_end, attached_hit, attached_miss}
use Rattle.copier.proofs.attachments.is_attached.Goals as goal

pub returns-then-memo-i : goal.returns-then-memo-i
returns-then-memo-i c = attached_hit _ _ _ _ c.loop-i.invariant (omega arith) c.if-memo-i.true

pub loop-i-preserved : goal.loop-i-preserved
loop-i-preserved c =
    let p : 4100 + 3 * (c.loop-i.i + 1) ≡ 4100 + 3 * c.loop-i.i + 3 = omega arith in
    let k : c.args.count - (c.loop-i.i + 1) ≡ c.args.count - c.loop-i.i - 1 = omega arith in
    rw (p, k) (attached_miss _ _ _ _ c.loop-i.invariant (omega arith) c.if-memo-i.false)

pub returns : goal.returns
returns c = attached_end _ _ _ _ c.loop-i.invariant (omega arith)
