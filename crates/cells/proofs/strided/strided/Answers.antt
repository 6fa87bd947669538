-- Each turn writes the cell of the next record.
use Rattle.std.specs.Prelude.{◌-◌, ◌+◌}
use mathlib.Core.Path.{◌≡◌, refl}
use Prim.Native.Nat.{◌+◌}
use Rattle.cells.specs.StridedLaws.{striding_begin, striding_all, striding_room, striding_turn, striding_end, mul_less}
use native.Mathlib.Omega.{arith}
use borrow.Author.Rules.{rules}
use Rattle.cells.proofs.strided.strided.Goals as goal

pub cell_here-requires : goal.cell_here-requires
cell_here-requires c =
    let p = c.requires in
    (p.0, omega (arith, p.1.within), omega (arith, mul_less _ c.args.h.width p.1.some), p.3, p.4)

pub loop-done-init : goal.loop-done-init
loop-done-init c =
    let a = c.args in
    (striding_begin a.to _ c.requires.1 (omega (arith, c.requires.2, c.cell_here.auto.out)), refl, refl)

pub overflow_add-at : goal.overflow_add-at
overflow_add-at c = let r = striding_room c.loop-done.invariant.0 (omega arith) in omega arith

pub overflow_add-index : goal.overflow_add-index
overflow_add-index c = let r = striding_room c.loop-done.invariant.0 (omega arith) in let e = c.loop-done.invariant.1 in omega arith

pub cell_here-requires-in-loop-done : goal.cell_here-requires-in-loop-done
cell_here-requires-in-loop-done c =
    let p = c.requires in
    let r = striding_room c.loop-done.invariant.0 (omega arith) in
    let e = c.loop-done.invariant.1 in
    (p.0, omega arith, omega arith, p.3, p.4)

pub loop-done-preserved : goal.loop-done-preserved
loop-done-preserved c =
    let v = c.loop-done.invariant in
    let e : c.args.n - (c.loop-done.done + 1) ≡ c.args.n - c.loop-done.done - 1 = omega arith in
    (rw e (rw v.1 (striding_turn v.0 (omega arith) c.cell_here-in-loop-done.auto.out (rw (← v.1) c.cell_here-in-loop-done.ensures))), v.1, search rules)

pub returns : goal.returns
returns c w =
    let a = c.args in
    striding_all a.to a.out.now w c.requires.1 (c.cell_here.ensures w) (striding_end c.loop-done.invariant.0 (omega arith) w)
