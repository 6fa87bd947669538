-- Cutting what is left of the text gives what cutting the whole gives.
use Rattle.std.proofs.Common.{refl, sym}
use Rattle.identification.specs.IdentificationLaws.{front-none, front-on, front_stop}
use Rattle.identification.proofs.cut_front.Goals as goal

pub loop-first-init : goal.loop-first-init
loop-first-init g c = refl

pub returns-then-not-cuts : goal.returns-then-not-cuts
returns-then-not-cuts g c = front_stop _ _ c.loop-first.invariant c.in-Some.ensures.cases.0 (sym c.if-not-cuts.ensures)

pub loop-first-preserved : goal.loop-first-preserved
loop-first-preserved g c = front-on _ _ c.loop-first.invariant c.in-Some.ensures.cases.0 (sym c.if-not-cuts.ensures)

pub returns : goal.returns
returns g c = front-none _ _ c.loop-first.invariant c.in_default.ensures.cases
