use mathlib.Core.Path.{refl, ◌∙◌}
use Rattle.places.specs.FacingLaws.{not-false, not-true}
use Rattle.cells.specs.CellLaws.{room-bytes}
use Rattle.window_cells.specs.CellLaws.{bytes_end, lay_bare, lay_kept}
use native.Mathlib.Omega.{arith}
use Rattle.window_cells.proofs.cell.lay_cell.Goals as goal

pub returns-in_default-checked_add : goal.returns-in_default-checked_add
returns-in_default-checked_add c r e p =
    let m = room-bytes r.shaped in
    let x = r.shaped.wide in
    let f = rw c.in_default-checked_add.is at c.checked_add-2.ensures in
    absurd (f (omega arith))

pub returns-then-not-h : goal.returns-then-not-h
returns-then-not-h c r e p =
    let f = rw c.in-Some.is at c.checked_add.ensures in
    lay_bare r _ e _ _ _ (not-true _ c.if-not-h.true) (c.lay_joined.ensures r.ranges r.small (rw f.1 (bytes_end r _ e)) ∙ rw f.1 refl)

pub returns : goal.returns
returns c r e p =
    let q = not-false _ c.if-not-h.false in
    let f = rw c.in-Some.is at c.checked_add.ensures in
    let g = rw c.in-Some-checked_add.is at c.checked_add-2.ensures in
    lay_kept r _ e _ _ _ _ q (c.kept_at.ensures r q e) (c.lay_joined.ensures r.ranges r.small (rw f.1 (bytes_end r _ e)) ∙ rw f.1 refl) (c.lay.ensures ∙ rw g.1 refl)
