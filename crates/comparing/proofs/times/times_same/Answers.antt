-- Unless both columns have one form, nothing is promised; those of no bytes are equal.
use mathlib.Core.Path.{sym, ◌∙◌}
use Rattle.comparing.specs.ComparableLaws.{alike, times-unfit, times_unfitting, times-bytes, times_keep, times_empty, times-by}
use native.Mathlib.Omega.{arith}
use Rattle.std.specs.Prelude.{not}
use Rattle.std.proofs.Common.{ap}
use Rattle.comparing.proofs.times.times_same.Goals as goal

pub returns-then-not-fits_in : goal.returns-then-not-fits_in
returns-then-not-fits_in c = times-unfit c.fits_in.ensures (ap not c.if-not-fits_in.true)

pub returns-then-not-fits_in-2 : goal.returns-then-not-fits_in-2
returns-then-not-fits_in-2 c = times_unfitting c.fits_in-2.ensures (ap not c.if-not-fits_in-2.true)

pub returns-then-h-i : goal.returns-then-h-i
returns-then-h-i c = times-bytes (c.shape_of-h.ensures (sym c.fits_in.ensures ∙ c.if-not-fits_in.false)) (c.shape_of-i.ensures (sym c.fits_in-2.ensures ∙ c.if-not-fits_in-2.false)) (omega arith)

pub returns-then-h-i-2 : goal.returns-then-h-i-2
returns-then-h-i-2 c = times_keep (c.shape_of-h.ensures (sym c.fits_in.ensures ∙ c.if-not-fits_in.false)) (c.shape_of-i.ensures (sym c.fits_in-2.ensures ∙ c.if-not-fits_in-2.false)) c.if-h-i-2.true

pub returns-then-h-eq0 : goal.returns-then-h-eq0
returns-then-h-eq0 c = times_empty (c.shape_of-h.ensures (sym c.fits_in.ensures ∙ c.if-not-fits_in.false)) (c.shape_of-i.ensures (sym c.fits_in-2.ensures ∙ c.if-not-fits_in-2.false)) (omega arith)

pub records_same-requires : goal.records_same-requires
records_same-requires c = ((c.shape_of-h.ensures (sym c.fits_in.ensures ∙ c.if-not-fits_in.false)).shaped, (c.shape_of-i.ensures (sym c.fits_in-2.ensures ∙ c.if-not-fits_in-2.false)).shaped, omega arith, alike _ _ c.if-h-i-2.false)

pub returns : goal.returns
returns c = times-by (c.shape_of-h.ensures (sym c.fits_in.ensures ∙ c.if-not-fits_in.false)) (c.shape_of-i.ensures (sym c.fits_in-2.ensures ∙ c.if-not-fits_in-2.false)) (omega arith) (omega arith) (alike _ _ c.if-h-i-2.false) c.records_same.ensures
