-- The attachments, then the rest.
use Rattle.planning.specs.AnswerLaws.{read_astray, read_followed}
use Rattle.fields.specs.AnswerLaws.{passed_on}
use Rattle.planning.proofs.recording.plan_read.Goals as goal

pub returns-in_err-photos_first : goal.returns-in_err-photos_first
returns-in_err-photos_first c = rw (passed_on _ _ c.from_residual.ensures) (read_astray _ _ _ _ _ _ _ _ c.photos_first.ensures c.in_err-photos_first.was)

pub returns : goal.returns
returns c = read_followed _ _ _ _ _ _ _ _ c.photos_first.ensures c.in_ok-photos_first.was c.plan_shared.ensures
