-- Each turn lays the records of a kept stretch; past the window it ends.
use mathlib.Core.Path.{refl}
use Rattle.data_blocks.specs.Filled.{Usable}
use Rattle.data_blocks.specs.FilledLaws.{if_usable, usable_in}
use Rattle.window_data.specs.RegionLaws.{block_in_lem}
use Rattle.window_data.specs.KeptLaws.{pool_none, pool_turn, pool_past}
use native.Mathlib.Omega.{arith}
use Rattle.std.specs.Prelude.{not}
use Rattle.std.proofs.Common.{ap}
use Rattle.window_data.proofs.kept.lay_pool.Goals as goal

pub loop-at-init : goal.loop-at-init
loop-at-init c = let b = c.args in (omega arith, c.requires.3, refl, pool_none b.a b.image.now b.d b.g b.fragments.now b.f b.pool.now b.r b.w.now)

pub start_of-requires : goal.start_of-requires
start_of-requires c = block_in_lem c.requires.1 _ c.loop-at-test.true

pub returns-then-is_past : goal.returns-then-is_past
returns-then-is_past c =
    let b = c.args in
    let v = c.loop-at.invariant in
    (c.requires.3, omega arith, pool_past b.a b.image.now b.d b.g b.fragments.now b.f b.pool.now b.r c.loop-at.at b.w.now c.loop-at.w c.requires.1 c.loop-at-test.true (rw (← c.start_of.ensures) (c.is_past.ensures c.if-is_past.true)) v.3)

pub returns-then-not-usable : goal.returns-then-not-usable
returns-then-not-usable c = let v = c.loop-at.invariant in (v.0, v.1, v.3)

pub overflow_add-next : goal.overflow_add-next
overflow_add-next c =
    let t = c.find-e.result.stretch in
    let u : Usable c.args.size c.args.f t.number t = if_usable _ c.usable.ensures (ap not c.if-not-usable.false) in
    omega (arith, u.few, c.struct_known-1.given)

pub returns-then-at-t : goal.returns-then-at-t
returns-then-at-t c = let v = c.loop-at.invariant in (v.0, v.1, v.3)

pub lay_rest-requires : goal.lay_rest-requires
lay_rest-requires c =
    let p = c.requires in
    let u = if_usable _ c.usable.ensures (ap not c.if-not-usable.false) in
    (p.0, p.1, usable_in u p.2)

pub loop-at-smaller : goal.loop-at-smaller
loop-at-smaller c = let u = if_usable _ c.usable.ensures (ap not c.if-not-usable.false) in omega (arith, u.few, c.if-next-at.false)

pub loop-at-preserved : goal.loop-at-preserved
loop-at-preserved c =
    let b = c.args in
    let v = c.loop-at.invariant in
    let u = if_usable _ c.usable.ensures (ap not c.if-not-usable.false) in
    (omega (arith, v.0, c.if-next-at.false), u.few, omega (arith, v.2, c.lay_rest.auto.w), pool_turn b.a b.image.now b.d b.g b.fragments.now b.f b.pool.now b.r c.loop-at.at b.w.now c.loop-at.w c.find-e.result c.requires.0.shaped v.3 c.find-e.ensures u.lying.some (omega arith) (omega arith) c.lay_rest.ensures)

pub returns : goal.returns
returns c = let v = c.loop-at.invariant in (v.0, v.1, v.3)
