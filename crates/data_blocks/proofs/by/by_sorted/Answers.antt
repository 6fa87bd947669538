-- Each turn puts the records of the next stretch.
use mathlib.Core.Path.{refl}
use Prim.Native.Nat.{◌+◌, ◌≤◌}
use Rattle.data_blocks.specs.Filled.{Usable}
use Rattle.data_blocks.specs.FilledLaws.{if_usable, usable_in, filling_begin, filling_stop, filling_turn, filling_end}
use native.Mathlib.Omega.{arith}
use Rattle.std.specs.Prelude.{not}
use Rattle.std.proofs.Common.{ap}
use Rattle.data_blocks.proofs.by.by_sorted.Goals as goal

pub loop-at-init : goal.loop-at-init
loop-at-init c = rw c.begin-spot.ensures (filling_begin 0 c.args.out.now c.requires.0)

pub returns-then-not-usable : goal.returns-then-not-usable
returns-then-not-usable c =
    let p = c.requires in
    filling_stop c.loop-at.invariant p.0 c.sorted_next-r.ensures p.2 c.usable.ensures (ap not c.if-not-usable.true) c.loop-at-test.true (omega arith)

pub put_rest-spot-requires : goal.put_rest-spot-requires
put_rest-spot-requires c =
    let p = c.requires in
    let v = c.loop-at.invariant in
    let u = if_usable _ c.usable.ensures (ap not c.if-not-usable.false) in
    (p.0, rw v.same p.1, v.spot_of, usable_in u p.2)

pub overflow_add-at : goal.overflow_add-at
overflow_add-at c =
    let t = c.sorted_next-r.result.stretch in
    let u : Usable c.args.size c.args.f c.loop-at.at t = if_usable _ c.usable.ensures (ap not c.if-not-usable.false) in
    let n : c.loop-at.at + t.count ≤ c.args.f.records = omega (arith, u.next, u.few) in
    omega (arith, n, c.struct_known-1.given)

pub loop-at-smaller : goal.loop-at-smaller
loop-at-smaller c = let u = if_usable _ c.usable.ensures (ap not c.if-not-usable.false) in omega (arith, u.next, u.few, u.lying.some)

pub loop-at-preserved : goal.loop-at-preserved
loop-at-preserved c =
    let p = c.requires in
    let u = if_usable _ c.usable.ensures (ap not c.if-not-usable.false) in
    let r = c.put_rest-spot.ensures in
    filling_turn c.loop-at.invariant p.0 c.sorted_next-r.ensures u r.0 (omega (arith, c.put_rest-spot.auto.out)) r.1 refl

pub returns : goal.returns
returns c = filling_end c.loop-at.invariant (omega arith) (omega arith)
