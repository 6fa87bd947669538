-- The id, its group, the record past the id; each that fails breaks the framing.
use Rattle.records.specs.FrameLaws.{step-short, step_big, step_unknown, step-body}
use Rattle.records.specs.AnswerLaws.{so_nowhere, so_spot, so_missing, so_value, so_unknown, so_group}
use native.Mathlib.Omega.{arith}
use Rattle.records.proofs.framing.Framing.step.Goals as goal

pub returns-in_err-body : goal.returns-in_err-body
returns-in_err-body c =
    rw c.from_residual.ensures (step-short _ _ _ _ _ _ _ (so_nowhere c.skip_on.ensures c.in_err-body.was))

pub returns-in_err-id : goal.returns-in_err-id
returns-in_err-id c =
    rw c.from_residual-in_err-id.ensures
    (step_big _ _ _ _ _ _ _ (so_spot c.skip_on.ensures c.in_ok-body.was) (λ i. let h = c.type_inv.image i in omega arith)
    (so_missing c.number_at.ensures c.in_err-id.was))

pub returns-in_err-group : goal.returns-in_err-group
returns-in_err-group c =
    rw c.from_residual-in_err-group.ensures
    (step_unknown _ _ _ _ _ _ _ (so_spot c.skip_on.ensures c.in_ok-body.was) (so_value c.number_at.ensures c.in_ok-id.was)
    (so_unknown c.with_id.ensures c.in_err-group.was))

pub returns : goal.returns
returns c =
    step-body _ _ _ _ _ _ _ (so_spot c.skip_on.ensures c.in_ok-body.was) (so_value c.number_at.ensures c.in_ok-id.was)
    (so_group c.with_id.ensures c.in_ok-group.was) c.body_step.ensures
