-- The bytes of the channels, then the kept bits, by their places in the joined data.
use mathlib.Core.Path.{sym, ◌∙◌}
use Rattle.comparing.specs.SameLaws.{compares, cells_apart, cells-bare, cells-kept, kept_byte_lem}
use native.Mathlib.Omega.{arith}
use Rattle.std.specs.Prelude.{not}
use Rattle.std.proofs.Common.{ap}
use Rattle.comparing.proofs.cell.cell_same.Goals as goal

pub returns-then-not-joined_same : goal.returns-then-not-joined_same
returns-then-not-joined_same c x y =
    let o = c.requires in
    let f = o.0.fit in
    let g = o.1.fit in
    let j = x.enough in
    let k = y.enough in
    let m = compares o.0 o.1 o.2 o.3 x y (c.skip-p.ensures _ (omega (arith, c.well_formed.0)) x.ranges (omega arith)) (c.skip-q.ensures _ (omega (arith, c.well_formed.0)) y.ranges (omega arith)) c.joined_same.ensures in
    cells_apart m (ap not c.if-not-joined_same.true)

pub overflow_cast-result-then-h : goal.overflow_cast-result-then-h
overflow_cast-result-then-h c = omega (arith, c.requires.1.bit)

pub overflow_shr-result-then-h : goal.overflow_shr-result-then-h
overflow_shr-result-then-h c = omega (arith, c.requires.1.bit)

pub returns-then-h : goal.returns-then-h
returns-then-h c x y =
    let o = c.requires in
    let f = o.0.fit in
    let g = o.1.fit in
    let j = x.enough in
    let k = y.enough in
    let m = compares o.0 o.1 o.2 o.3 x y (c.skip-p.ensures _ (omega (arith, c.well_formed.0)) x.ranges (omega arith)) (c.skip-q.ensures _ (omega (arith, c.well_formed.0)) y.ranges (omega arith)) c.joined_same.ensures in
    let u = o.0.kept c.if-h.true in
    let v = o.1.kept (sym o.3 ∙ c.if-h.true) in
    cells-kept m (ap not c.if-not-joined_same.false) c.if-h.true (kept_byte_lem _ _ _ _ _ u (c.byte_at-x.ensures x.ranges (omega arith))) (kept_byte_lem _ _ _ _ _ v (c.byte_at-y.ensures y.ranges (omega arith)))

pub returns : goal.returns
returns c x y =
    let o = c.requires in
    let f = o.0.fit in
    let g = o.1.fit in
    let j = x.enough in
    let k = y.enough in
    let m = compares o.0 o.1 o.2 o.3 x y (c.skip-p.ensures _ (omega (arith, c.well_formed.0)) x.ranges (omega arith)) (c.skip-q.ensures _ (omega (arith, c.well_formed.0)) y.ranges (omega arith)) c.joined_same.ensures in
    cells-bare m (ap not c.if-not-joined_same.false) c.if-h.false
