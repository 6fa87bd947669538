-- The copies that are left give what all give; a hit or the end answers.
use Prim.Native.Nat.{◌+◌, ◌*◌, ◌-◌}
use Prim.Native.Nat.{◌/◌}
use lib.ListN.{length}
use mathlib.Core.Path.{◌≡◌}
use native.Mathlib.Omega.{arith}
use Rattle.copier.specs.StandingLaws.{find_end, find_hit, find_miss}
use Rattle.copier.proofs.memo.find.Goals as goal

pub returns-then-memo-i : goal.returns-then-memo-i
returns-then-memo-i c = find_hit _ _ _ _ c.loop-i.invariant (omega arith) c.if-memo-i.true

pub loop-i-preserved : goal.loop-i-preserved
loop-i-preserved c =
    let p : 2 * (c.loop-i.i + 1) ≡ 2 * c.loop-i.i + 2 = omega arith in
    let k : length c.args.memo.now / 2 - (c.loop-i.i + 1) ≡ length c.args.memo.now / 2 - c.loop-i.i - 1 = omega arith in
    rw (p, k) (find_miss _ _ _ _ c.loop-i.invariant (omega arith) c.if-memo-i.false)

pub returns : goal.returns
returns c = find_end _ _ _ _ c.loop-i.invariant (omega arith)
