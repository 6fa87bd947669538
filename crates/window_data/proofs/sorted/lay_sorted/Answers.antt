use Prim.Native.Nat.{◌+◌, ◌≤◌}
use mathlib.Core.Path.{refl}
use Rattle.data_blocks.specs.Filled.{Usable}
use Rattle.data_blocks.specs.FilledLaws.{if_usable, usable_in}
use Rattle.window_data.specs.FilledLaws.{form_in, filling_begin, filling_stop, filling_turn, filling_end, filled-all}
use native.Mathlib.Omega.{arith}
use Rattle.std.specs.Prelude.{not}
use Rattle.std.proofs.Common.{ap}
use Rattle.window_data.proofs.sorted.lay_sorted.Goals as goal

pub record_from-r-requires : goal.record_from-r-requires
record_from-r-requires c = form_in c.requires.1

pub loop-at-init : goal.loop-at-init
loop-at-init c = filling_begin _ _

pub returns-then-not-usable : goal.returns-then-not-usable
returns-then-not-usable c =
    let p = c.requires in
    filled-all p.1 c.record_from-r.ensures (filling_stop c.loop-at.invariant p.0 c.sorted_next-next.ensures p.2 c.usable.ensures (ap not c.if-not-usable.true) c.loop-at-test.true)

pub lay_rest-requires : goal.lay_rest-requires
lay_rest-requires c =
    let p = c.requires in
    let u = if_usable _ c.usable.ensures (ap not c.if-not-usable.false) in
    (p.0, p.1, usable_in u p.2)

pub overflow_add-at : goal.overflow_add-at
overflow_add-at c =
    let t = c.sorted_next-next.result.stretch in
    let u : Usable c.args.size c.args.f c.loop-at.at t = if_usable _ c.usable.ensures (ap not c.if-not-usable.false) in
    let n : c.loop-at.at + t.count ≤ c.args.f.records = omega (arith, u.next, u.few) in
    omega (arith, n, c.struct_known-1.given)

pub loop-at-smaller : goal.loop-at-smaller
loop-at-smaller c = let u = if_usable _ c.usable.ensures (ap not c.if-not-usable.false) in omega (arith, u.next, u.few, u.lying.some)

pub loop-at-preserved : goal.loop-at-preserved
loop-at-preserved c =
    let p = c.requires in
    let u = if_usable _ c.usable.ensures (ap not c.if-not-usable.false) in
    filling_turn c.loop-at.invariant p.0 c.sorted_next-next.ensures u (omega (arith, c.lay_rest.auto.w)) c.lay_rest.ensures refl

pub returns : goal.returns
returns c =
    let o = c.record_from-r.ensures in
    filled-all c.requires.1 o (filling_end c.loop-at.invariant (omega arith) o.few)
