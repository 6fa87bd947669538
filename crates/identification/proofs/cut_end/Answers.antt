-- Cutting what is left of the text gives what cutting the whole gives.
use Rattle.std.proofs.Common.{refl, sym}
use Rattle.identification.specs.IdentificationLaws.{end_none, end_on, end_stop}
use Rattle.identification.proofs.cut_end.Goals as goal

pub loop-last-init : goal.loop-last-init
loop-last-init g c = refl

pub returns-then-not-cuts : goal.returns-then-not-cuts
returns-then-not-cuts g c = end_stop _ _ c.loop-last.invariant _ _ c.in-Some.ensures.cases.0 (sym c.if-not-cuts.ensures)

pub loop-last-preserved : goal.loop-last-preserved
loop-last-preserved g c = end_on _ _ c.loop-last.invariant _ _ c.in-Some.ensures.cases.0 (sym c.if-not-cuts.ensures)

pub returns : goal.returns
returns g c = end_none _ _ c.loop-last.invariant c.in_default.ensures.cases
