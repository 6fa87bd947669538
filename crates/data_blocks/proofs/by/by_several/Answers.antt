-- Each turn puts the records of the next stretch, as far as they are asked for.
use mathlib.Core.Path.{refl}
use Prim.Native.Nat.{◌+◌, ◌≤◌}
use Rattle.data_blocks.specs.Filled.{Usable}
use Rattle.data_blocks.specs.FilledLaws.{if_usable, usable_in, filling_begin, filling_stop, filling_turn, filling_end, tables_of_lem}
use borrow.Author.Rules.{rules}
use native.Mathlib.Omega.{arith}
use Rattle.std.specs.Prelude.{not}
use Rattle.std.proofs.Common.{ap}
use Rattle.data_blocks.proofs.by.by_several.Goals as goal

pub loop-at-init : goal.loop-at-init
loop-at-init c =
    let a = c.args in
    let m = c.make_tables.ensures in (
      rw c.begin-spot.ensures (filling_begin a.a a.out.now c.requires.0),
      (λ r. tables_of_lem a.image.now a.groups.now _ _ r c.requires.4 m.0 (search rules) m.1 (search rules)),
      c.id_size-n.ensures.is,
    )

pub returns-then-not-usable : goal.returns-then-not-usable
returns-then-not-usable c =
    let p = c.requires in
    let v = c.loop-at.invariant in
    filling_stop v.0 p.0 (λ y z. c.several_next-r.ensures _ v.2 p.4 (v.1 y) y z) p.2 c.usable.ensures (ap not c.if-not-usable.true) c.loop-at-test.true p.3

pub put_rest-spot-requires : goal.put_rest-spot-requires
put_rest-spot-requires c =
    let p = c.requires in
    let v = c.loop-at.invariant.0 in
    let u = if_usable _ c.usable.ensures (ap not c.if-not-usable.false) in
    (p.0, rw v.same p.1, v.spot_of, usable_in u p.2)

pub overflow_add-at : goal.overflow_add-at
overflow_add-at c =
    let t = c.several_next-r.result.stretch in
    let u : Usable c.args.size c.args.f c.loop-at.at t = if_usable _ c.usable.ensures (ap not c.if-not-usable.false) in
    let n : c.loop-at.at + t.count ≤ c.args.f.records = omega (arith, u.next, u.few) in
    omega (arith, n, c.struct_known-1.given)

pub loop-at-smaller : goal.loop-at-smaller
loop-at-smaller c = let u = if_usable _ c.usable.ensures (ap not c.if-not-usable.false) in omega (arith, u.next, u.few, u.lying.some)

pub loop-at-preserved : goal.loop-at-preserved
loop-at-preserved c =
    let p = c.requires in
    let v = c.loop-at.invariant in
    let u = if_usable _ c.usable.ensures (ap not c.if-not-usable.false) in
    let r = c.put_rest-spot.ensures in
    (filling_turn v.0 p.0 (λ y z. c.several_next-r.ensures _ v.2 p.4 (v.1 y) y z) u r.0 (omega (arith, c.put_rest-spot.auto.out)) r.1 refl, v.1, v.2)

pub returns : goal.returns
returns c = filling_end c.loop-at.invariant.0 (omega arith) c.requires.3
