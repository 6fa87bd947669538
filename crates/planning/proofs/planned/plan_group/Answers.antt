-- A storage group has nothing; another has its time, then its channels.
use Rattle.blocks.specs.AnswerLaws.{so_fine, so_refused}
use Rattle.planning.specs.PlannedLaws.{group_storage, group_untold, group-planned}
use native.Mathlib.Omega.{arith}
use Rattle.fields.specs.AnswerLaws.{passed_on}
use Rattle.planning.proofs.planned.plan_group.Goals as goal

pub returns-then-is_storage : goal.returns-then-is_storage
returns-then-is_storage c = group_storage _ _ _ _ _ _ _ _ _ _ _ _ _ _ c.is_storage.ensures c.if-is_storage.true (omega arith)

pub returns-in_err-time_in : goal.returns-in_err-time_in
returns-in_err-time_in c = rw (passed_on _ _ c.from_residual.ensures) (group_untold _ _ _ _ _ _ _ _ _ _ _ _ _ _ c.is_storage.ensures c.if-is_storage.false c.own_of-own.ensures c.settle-settled.ensures
    (so_refused c.time_in.ensures c.in_err-time_in.was))

pub returns : goal.returns
returns c = group-planned _ _ _ _ _ _ _ _ _ _ _ _ _ _ c.is_storage.ensures c.if-is_storage.false c.own_of-own.ensures c.settle-settled.ensures
    (so_fine c.time_in.ensures c.in_ok-time_in.was) c.plan_channels.ensures
