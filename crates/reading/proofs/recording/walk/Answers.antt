-- HD's check, then what the walk from its first DG gives.
use Rattle.fields.specs.AnswerLaws.{passed_on}
use Rattle.index.specs.IndexLaws.{index_begin}
use Rattle.reading.specs.WalkedLaws.{head_refused, head-fine}
use Rattle.reading.proofs.recording.walk.Goals as goal

pub returns-in_err-block_at : goal.returns-in_err-block_at
returns-in_err-block_at c = rw (passed_on _ _ c.from_residual.ensures) (head_refused _ _ _ _ c.block_at.ensures c.in_err-block_at.was)

pub walk_from-requires : goal.walk_from-requires
walk_from-requires c = (c.requires, index_begin _ _)

pub returns : goal.returns
returns c = head-fine _ _ _ _ c.block_at.ensures c.in_ok-block_at.was c.link_at.ensures c.walk_from.ensures
