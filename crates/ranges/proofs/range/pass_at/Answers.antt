-- What stands there decides.
use Rattle.std.proofs.Common.{◌∙◌, ap, sym, Ok}
use Rattle.fields.specs.AnswerLaws.{passed_on}
use Rattle.blocks.specs.AnswerLaws.{so_fine, so_refused}
use Rattle.ranges.specs.RangedLaws.{pass_refused, pass_block, pass_hl, pass_stop, pass_dl}
use Rattle.ranges.proofs.range.pass_at.Goals as goal

pub returns-in_err-block_range-in-Ok-Fragment : goal.returns-in_err-block_range-in-Ok-Fragment
returns-in_err-block_range-in-Ok-Fragment c =
    rw (passed_on _ _ c.from_residual.ensures)
    (pass_block _ _ c.node_at.ensures (c.in-Ok-Fragment.is ∙ ap Ok c.in-Ok-Fragment.field-0-is) (sym (so_refused c.block_range.ensures c.in_err-block_range-in-Ok-Fragment.was)))

pub returns-in_ok-block_range-in-Ok-Fragment : goal.returns-in_ok-block_range-in-Ok-Fragment
returns-in_ok-block_range-in-Ok-Fragment c =
    pass_block _ _ c.node_at.ensures (c.in-Ok-Fragment.is ∙ ap Ok c.in-Ok-Fragment.field-0-is) (sym (so_fine c.block_range.ensures c.in_ok-block_range-in-Ok-Fragment.was))

pub returns-in_err-list_ranges-in-Ok-Dl : goal.returns-in_err-list_ranges-in-Ok-Dl
returns-in_err-list_ranges-in-Ok-Dl c =
    rw (passed_on _ _ c.from_residual-in_err-list_ranges-in-Ok-Dl.ensures)
    (pass_stop _ _ c.node_at.ensures (c.in-Ok-Dl.is ∙ ap Ok c.in-Ok-Dl.field-0-is) c.list_ranges.ensures c.in_err-list_ranges-in-Ok-Dl.was)

pub returns-in_ok-list_ranges-in-Ok-Dl : goal.returns-in_ok-list_ranges-in-Ok-Dl
returns-in_ok-list_ranges-in-Ok-Dl c = pass_dl _ _ c.node_at.ensures (c.in-Ok-Dl.is ∙ ap Ok c.in-Ok-Dl.field-0-is) c.list_ranges.ensures c.in_ok-list_ranges-in-Ok-Dl.was

pub returns-in-Ok-Hl : goal.returns-in-Ok-Hl
returns-in-Ok-Hl c = pass_hl _ _ c.node_at.ensures (c.in-Ok-Hl.is ∙ ap Ok c.in-Ok-Hl.field-0-is)

pub returns-in-Err : goal.returns-in-Err
returns-in-Err c = pass_refused _ _ c.node_at.ensures c.in-Err.is
