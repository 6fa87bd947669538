-- The bytes past the id, and what is ahead past them.
use Rattle.records.specs.FrameLaws.{record_none, record_short, record_onto}
use Rattle.records.specs.AnswerLaws.{so_missing, so_value, so_nowhere, so_spot}
use Rattle.records.proofs.framing.body_step.Goals as goal

pub returns-in_err-bytes : goal.returns-in_err-bytes
returns-in_err-bytes c =
    rw c.from_residual.ensures (record_none _ _ _ _ _ (so_missing c.body_of.ensures c.in_err-bytes.was))

pub returns-in_err-next : goal.returns-in_err-next
returns-in_err-next c =
    rw c.from_residual-in_err-next.ensures
    (record_short _ _ _ _ _ (so_value c.body_of.ensures c.in_ok-bytes.was) (so_nowhere c.skip_on.ensures c.in_err-next.was))

pub returns : goal.returns
returns c =
    record_onto _ _ _ _ _ (so_value c.body_of.ensures c.in_ok-bytes.was) (so_spot c.skip_on.ensures c.in_ok-next.was)
