use mathlib.Core.Path.{refl}
use native.Mathlib.Nat.{le_refl}
use Rattle.joined.specs.SpotLaws.{spot_front}
use Rattle.window_cells.specs.StretchLaws.{rest-past, rest_whole, rest-none, rest-room, rest_end}
use native.Mathlib.Omega.{arith}
use Rattle.window_cells.proofs.stretch.lay_rest.Goals as goal

pub returns-then-room-to : goal.returns-then-room-to
returns-then-room-to c d l = rest-past d _ _ _ c.requires.1 (omega (arith, c.if-room-to.true))

pub returns-then-r-m : goal.returns-then-r-m
returns-then-r-m c d l =
    let a = c.args in
    rest_whole d a.a a.r a.w.now c.requires.1 (c.put_stretch.ensures d (rw c.begin.ensures (spot_front _ _ d.ranges)) l
    (rest-room d c.args.r l a.a a.r.n a.w.now (omega (arith, c.if-room-to.false)) c.if-r-m.true)).1

pub returns-then-m-eq0 : goal.returns-then-m-eq0
returns-then-m-eq0 c d l = rest-none d c.args.r l _ _ _ c.requires.0 c.requires.1 refl c.if-m-eq0.true c.lay_cell.ensures

pub returns : goal.returns
returns c d l =
    let a = c.args in
    rest_end d c.args.r l a.a _ a.w.now _ c.requires.0 c.requires.1 (omega (arith, c.if-room-to.false)) refl c.if-m-eq0.false (omega (arith, c.if-r-m.false)) c.further-t.ensures
    (λ f. (c.put_stretch-2.ensures d (rw c.begin-2.ensures (spot_front _ _ d.ranges)) f
    (rest-room d c.args.r l a.a _ a.w.now (omega (arith, c.if-room-to.false)) (le_refl _))).1)
    c.lay_cell-2.ensures
