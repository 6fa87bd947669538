-- What stands at the link decides.
use Rattle.std.proofs.Common.{◌∙◌, ap, Ok}
use Rattle.ranges.specs.RangedLaws.{entry_zero, entry_refused, entry-dl, entry_hl, entry-block}
use Rattle.ranges.proofs.range.entry_range.Goals as goal

pub returns-then-link-eq0 : goal.returns-then-link-eq0
returns-then-link-eq0 c = entry_zero _ _ c.if-link-eq0.true

pub returns-in-Ok-Fragment : goal.returns-in-Ok-Fragment
returns-in-Ok-Fragment c = entry-block _ _ c.if-link-eq0.false c.node_at.ensures (c.in-Ok-Fragment.is ∙ ap Ok c.in-Ok-Fragment.field-0-is) c.block_range.ensures

pub returns-in-Ok-Dl : goal.returns-in-Ok-Dl
returns-in-Ok-Dl c = entry-dl _ _ c.if-link-eq0.false c.node_at.ensures (c.in-Ok-Dl.is ∙ ap Ok c.in-Ok-Dl.field-0-is)

pub returns-in-Ok-Hl : goal.returns-in-Ok-Hl
returns-in-Ok-Hl c = entry_hl _ _ c.if-link-eq0.false c.node_at.ensures (c.in-Ok-Hl.is ∙ ap Ok c.in-Ok-Hl.field-0-is)

pub returns-in-Err : goal.returns-in-Err
returns-in-Err c = entry_refused _ _ c.if-link-eq0.false c.node_at.ensures c.in-Err.is
