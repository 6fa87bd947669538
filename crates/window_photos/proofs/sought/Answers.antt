-- The attachments that are left give what all give.
use Prim.Native.Nat.{◌+◌, ◌*◌, ◌-◌}
use mathlib.Core.Path.{◌≡◌}
use native.Mathlib.Omega.{arith}
use Rattle.window_photos.specs.SeekLaws.{seek_begin, seek_hit, seek_next, seek_none}
use Rattle.window_photos.proofs.sought.Goals as goal

pub loop-i-init : goal.loop-i-init
loop-i-init c = let e : c.args.attached - 0 ≡ c.args.attached = omega arith in rw e (seek_begin _ _ _ _)

pub returns-then-memo-p : goal.returns-then-memo-p
returns-then-memo-p c = seek_hit c.loop-i.invariant (omega (arith, c.loop-i-test.true)) c.if-memo-p.true

pub loop-i-preserved : goal.loop-i-preserved
loop-i-preserved c =
    let e : 4100 + 3 * (c.loop-i.i + 1) ≡ 4100 + 3 * c.loop-i.i + 3 = omega arith in
    let f : c.args.attached - (c.loop-i.i + 1) ≡ c.args.attached - c.loop-i.i - 1 = omega arith in
    rw (e, f) (seek_next c.loop-i.invariant (omega (arith, c.loop-i-test.true)) c.if-memo-p.false)

pub returns : goal.returns
returns c = seek_none c.loop-i.invariant (omega arith)
