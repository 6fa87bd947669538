-- Each turn passes equal bytes, as many as lie in one fragment of each.
use mathlib.Core.Path.{refl}
use Rattle.comparing.specs.SameLaws.{stepped, matching_turn, matching_other, matching_end}
use native.Mathlib.Omega.{arith}
use Rattle.std.specs.Prelude.{not}
use Rattle.std.proofs.Common.{ap}
use Rattle.comparing.proofs.cell.joined_same.Goals as goal

pub loop-left-init : goal.loop-left-init
loop-left-init c x y = record { one = x; two = y; is = refl }

pub returns-then-m-eq0 : goal.returns-then-m-eq0
returns-then-m-eq0 c x y =
    let t = c.loop-left.invariant x y in
    let a = stepped t.one (omega arith) c.settle-p.ensures in
    let b = stepped t.two (omega arith) c.settle-q.ensures in
    absurd (omega (arith, a.some, b.some))

pub returns-then-not-parts_same : goal.returns-then-not-parts_same
returns-then-not-parts_same c x y =
    let t = c.loop-left.invariant x y in
    let a = stepped t.one (omega arith) c.settle-p.ensures in
    let b = stepped t.two (omega arith) c.settle-q.ensures in
    matching_other t a b _ (omega arith) (omega arith) (omega arith) c.parts_same.ensures (ap not c.if-not-parts_same.true)

pub loop-left-preserved : goal.loop-left-preserved
loop-left-preserved c x y =
    let t = c.loop-left.invariant x y in
    let a = stepped t.one (omega arith) c.settle-p.ensures in
    let b = stepped t.two (omega arith) c.settle-q.ensures in
    let e = a.has.enough in
    let f = b.has.enough in
    matching_turn t a b _ (omega arith) (omega arith) (omega arith) c.parts_same.ensures (ap not c.if-not-parts_same.false) _ _ (c.skip-j.ensures _ (omega (arith, c.well_formed.0)) a.has.ranges (omega arith))
    (c.skip-k.ensures _ (omega (arith, c.well_formed.0)) b.has.ranges (omega arith))

pub returns : goal.returns
returns c x y = matching_end (c.loop-left.invariant x y) (omega arith)
