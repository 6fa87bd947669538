-- The bytes of the channels, then the kept bits, by their places in the image.
use mathlib.Core.Path.{sym, ◌∙◌}
use Rattle.cells.specs.CellLaws.{byte_in}
use Rattle.comparing.specs.SameLaws.{compares_here, cells_apart, cells-bare, cells-kept}
use native.Mathlib.Omega.{arith}
use Rattle.std.specs.Prelude.{not}
use Rattle.std.proofs.Common.{ap}
use Rattle.comparing.proofs.cell.here_same.Goals as goal

pub returns-then-not-parts_same : goal.returns-then-not-parts_same
returns-then-not-parts_same c =
    let o = c.requires in
    let f = o.0.fit in
    let g = o.1.fit in
    let j = o.4 in
    let k = o.5 in
    let m = compares_here _ _ o.0 o.1 o.2 o.3 j k c.parts_same.ensures in
    cells_apart m (ap not c.if-not-parts_same.true)

pub overflow_add-x : goal.overflow_add-x
overflow_add-x c = let u = c.requires.0.kept c.if-h.true in let l = c.requires.4 in omega (arith, c.well_formed.0)

pub bounds-image-p : goal.bounds-image-p
bounds-image-p c = let u = c.requires.0.kept c.if-h.true in let l = c.requires.4 in omega arith

pub overflow_add-y : goal.overflow_add-y
overflow_add-y c = let o = c.requires in let v = o.1.kept (sym o.3 ∙ c.if-h.true) in let l = o.5 in omega (arith, c.well_formed.0)

pub bounds-image-q : goal.bounds-image-q
bounds-image-q c = let o = c.requires in let v = o.1.kept (sym o.3 ∙ c.if-h.true) in let l = o.5 in omega arith

pub returns-then-h : goal.returns-then-h
returns-then-h c =
    let o = c.requires in
    let f = o.0.fit in
    let g = o.1.fit in
    let j = o.4 in
    let k = o.5 in
    let m = compares_here _ _ o.0 o.1 o.2 o.3 j k c.parts_same.ensures in
    let u = o.0.kept c.if-h.true in
    let v = o.1.kept (sym o.3 ∙ c.if-h.true) in
    cells-kept m (ap not c.if-not-parts_same.false) c.if-h.true (byte_in _ _ _ _ u) (byte_in _ _ _ _ v)

pub returns : goal.returns
returns c =
    let o = c.requires in
    let f = o.0.fit in
    let g = o.1.fit in
    let j = o.4 in
    let k = o.5 in
    let m = compares_here _ _ o.0 o.1 o.2 o.3 j k c.parts_same.ensures in
    cells-bare m (ap not c.if-not-parts_same.false) c.if-h.false
