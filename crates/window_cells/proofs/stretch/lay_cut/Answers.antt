use Rattle.window_cells.specs.StretchLaws.{lain_further, cut-single, cut-first}
use native.Mathlib.Omega.{arith}
use Rattle.window_cells.proofs.stretch.lay_cut.Goals as goal

pub returns-then-r-eq1 : goal.returns-then-r-eq1
returns-then-r-eq1 c d l = cut-single d c.args.r l _ _ c.requires.0 c.if-r-eq1.true c.lay_cell.ensures

pub lay_rest-requires : goal.lay_rest-requires
lay_rest-requires c = (rw c.further-t.ensures (lain_further _ _ 1 c.requires.0 (omega (arith, c.requires.0.some, c.if-r-eq1.false))), rw c.further-t.ensures (omega (arith, c.requires.1)))

pub returns : goal.returns
returns c d l = cut-first d c.args.r l _ _ _ c.requires.0 c.if-r-eq1.false c.further-t.ensures c.lay_cell-2.ensures c.lay_rest.ensures
