-- The refusal of the header is passed on; else the second check answers.
use Rattle.fields.specs.AnswerLaws.{passed_on}
use Rattle.blocks.specs.BlockLaws.{whole_refused, whole_checked}
use Rattle.blocks.proofs.block.whole_at.Goals as goal

pub returns-in_err-header_in : goal.returns-in_err-header_in
returns-in_err-header_in c = rw (passed_on _ _ c.from_residual.ensures) (whole_refused _ _ c.header_in.ensures c.in_err-header_in.was)

pub returns : goal.returns
returns c = whole_checked _ _ c.header_in.ensures c.in_ok-header_in.was
    c.length_in.ensures
