use mathlib.Core.Path.{sym, ◌∙◌}
use mathlib.Core.Bool.{false≢true}
use Rattle.window_cells.specs.StretchLaws.{lain_of, lain_further, passed-all, passed-front, passed_most}
use native.Mathlib.Omega.{arith}
use Rattle.window_cells.proofs.stretch.lay_stretch.Goals as goal

pub returns-then-not-is_laid : goal.returns-then-not-is_laid
returns-then-not-is_laid c z p d l = absurd (false≢true (sym (c.if-not-is_laid.true) ∙ c.is_laid.ensures.1 (lain_of d c.args.r l z p)))

pub passed-i-requires : goal.passed-i-requires
passed-i-requires c = (c.is_laid.ensures.0 (c.if-not-is_laid.false)).wide

pub returns-then-r-i : goal.returns-then-r-i
returns-then-r-i c z p d l = passed-all d c.args.r l _ _ _ c.passed-i.ensures c.if-r-i.true

pub further-t-requires : goal.further-t-requires
further-t-requires c = (c.is_laid.ensures.0 (c.if-not-is_laid.false), omega (arith, c.if-r-i.false))

pub lay_rest-requires : goal.lay_rest-requires
lay_rest-requires c = (rw c.further-t.ensures (lain_further _ _ _ (c.is_laid.ensures.0 (c.if-not-is_laid.false)) (omega (arith, c.if-r-i.false))), c.if-a-t.true)

pub returns-then-a-t : goal.returns-then-a-t
returns-then-a-t c z p d l = passed-front d c.args.r l _ _ _ _ c.passed-i.ensures (omega (arith, c.if-r-i.false)) c.further-t.ensures c.lay_rest.ensures

pub lay_cut-requires : goal.lay_cut-requires
lay_cut-requires c = (rw c.further-t.ensures (lain_further _ _ _ (c.is_laid.ensures.0 (c.if-not-is_laid.false)) (omega (arith, c.if-r-i.false))), rw c.further-t.ensures (passed_most _ _ _ _ (c.is_laid.ensures.0 (c.if-not-is_laid.false)).wide c.passed-i.ensures))

pub returns : goal.returns
returns c z p d l = passed-front d c.args.r l _ _ _ _ c.passed-i.ensures (omega (arith, c.if-r-i.false)) c.further-t.ensures c.lay_cut.ensures
