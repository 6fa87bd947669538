-- Another type, a type stored as 0, or link 6.
use mathlib.Core.Path.{◌∙◌}
use Rattle.deciding.specs.DecideLaws.{link-other, link-stored, link_read}
use Rattle.deciding.proofs.signal_link.Goals as goal

pub returns-then-t-ne1 : goal.returns-then-t-ne1
returns-then-t-ne1 c = link-other _ _ _ c.channel_type-t.ensures.is c.if-t-ne1.true

pub returns-then-treatment_of-eq2 : goal.returns-then-treatment_of-eq2
returns-then-treatment_of-eq2 c = link-stored _ _ _ c.channel_type-t.ensures.is c.if-t-ne1.false c.treatment_of.ensures c.if-treatment_of-eq2.true

pub returns : goal.returns
returns c = c.link_at.ensures ∙ link_read _ _ _ c.channel_type-t.ensures.is c.if-t-ne1.false c.treatment_of.ensures c.if-treatment_of-eq2.false
