-- The refusal of the block as a whole is passed on; else the second check answers.
use Rattle.fields.specs.AnswerLaws.{passed_on}
use Rattle.blocks.specs.BlockLaws.{block_refused, block_checked}
use Rattle.blocks.proofs.block.block_at.Goals as goal

pub returns-in_err-whole_at : goal.returns-in_err-whole_at
returns-in_err-whole_at c = rw (passed_on _ _ c.from_residual.ensures) (block_refused _ _ _ c.whole_at.ensures c.in_err-whole_at.was)

pub returns : goal.returns
returns c = block_checked _ _ _ c.whole_at.ensures c.in_ok-whole_at.was
    c.wanted_at.ensures
