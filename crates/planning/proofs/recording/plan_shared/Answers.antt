-- Which masters stand for others, then the plan.
use Rattle.planning.specs.AnswerLaws.{read_unshared, read_shared}
use Rattle.fields.specs.AnswerLaws.{passed_on}
use Rattle.planning.proofs.recording.plan_shared.Goals as goal

pub returns-in_err-shared_in : goal.returns-in_err-shared_in
returns-in_err-shared_in c = rw (passed_on _ _ c.from_residual.ensures) (read_unshared _ _ _ _ _ _ _ _ _ c.shared_in.ensures c.in_err-shared_in.was)

pub returns : goal.returns
returns c = read_shared _ _ _ _ _ _ _ _ _ c.shared_in.ensures c.in_ok-shared_in.was c.plan_stood.ensures
