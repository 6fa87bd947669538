-- The data stage, then the block counts.
use Rattle.planning.specs.AnswerLaws.{stage_stop, stage_blocks}
use Rattle.fields.specs.AnswerLaws.{passed_on}
use Rattle.planning.proofs.recording.stage_in.Goals as goal

pub returns-in_err-all_data_in : goal.returns-in_err-all_data_in
returns-in_err-all_data_in c = rw (passed_on _ _ c.from_residual.ensures) (stage_stop _ _ _ _ _ _ _ _ c.all_data_in.ensures c.in_err-all_data_in.was)

pub returns : goal.returns
returns c = stage_blocks _ _ _ _ _ _ _ _ c.all_data_in.ensures c.in_ok-all_data_in.was
    c.blocks_in.ensures
