-- Each turn puts the records of a kept stretch.
use mathlib.Core.Path.{refl}
use Prim.Native.Nat.{◌+◌, ◌≤◌}
use Rattle.joined.specs.SpotLaws.{spot_front}
use Rattle.data_blocks.specs.Filled.{Usable}
use Rattle.data_blocks.specs.FilledLaws.{if_usable, usable_in, pool_none, pool_turn}
use native.Mathlib.Omega.{arith}
use Rattle.std.specs.Prelude.{not}
use Rattle.std.proofs.Common.{ap}
use Rattle.data_blocks.proofs.by.by_pool.Goals as goal

pub loop-at-init : goal.loop-at-init
loop-at-init c =
    let a = c.args in (
      omega arith,
      refl,
      rw c.begin-spot.ensures (spot_front _ _ c.requires.0.ranges),
      pool_none a.image.now a.d a.g a.fragments.now a.f a.pool.now a.out.now,
    )

pub returns-then-not-usable : goal.returns-then-not-usable
returns-then-not-usable c = (c.loop-at.invariant.0, c.loop-at.invariant.3)

pub put_rest-spot-requires : goal.put_rest-spot-requires
put_rest-spot-requires c =
    let p = c.requires in
    let v = c.loop-at.invariant in
    let u = if_usable _ c.usable.ensures (ap not c.if-not-usable.false) in
    (p.0, rw v.1 p.1, v.2, usable_in u p.2)

pub overflow_add-at : goal.overflow_add-at
overflow_add-at c =
    let t = c.find-e.result.stretch in
    let u : Usable c.args.size c.args.f c.loop-at.at t = if_usable _ c.usable.ensures (ap not c.if-not-usable.false) in
    let n : c.loop-at.at + t.count ≤ c.args.f.records = omega (arith, u.next, u.few) in
    omega (arith, n, c.struct_known-1.given)

pub loop-at-smaller : goal.loop-at-smaller
loop-at-smaller c = let u = if_usable _ c.usable.ensures (ap not c.if-not-usable.false) in omega (arith, u.next, u.few, u.lying.some)

pub loop-at-preserved : goal.loop-at-preserved
loop-at-preserved c =
    let a = c.args in
    let v = c.loop-at.invariant in
    let x = c.loop-at in
    let u = if_usable _ c.usable.ensures (ap not c.if-not-usable.false) in
    let r = c.put_rest-spot.ensures in (
      omega (arith, u.next, u.few),
      omega (arith, v.1, c.put_rest-spot.auto.out),
      r.0,
      pool_turn a.image.now a.d a.g a.fragments.now a.f a.pool.now x.at a.out.now x.out c.find-e.result c.requires.0.shaped
          v.3 c.find-e.ensures u r.1,
    )

pub returns : goal.returns
returns c = (c.loop-at.invariant.0, c.loop-at.invariant.3)
