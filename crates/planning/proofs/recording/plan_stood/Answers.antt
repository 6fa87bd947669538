-- The plan, then its data stage, for whatever recording the words hold.
use native.Mathlib.Omega.{arith}
use Rattle.fields.specs.AnswerLaws.{passed_on}
use Rattle.planning.specs.StandsLaws.{groups_alike}
use Rattle.planning.specs.AnswerLaws.{planned-few, read_unplanned, read_unstaged, read_planned}
use borrow.Author.Rules.{rules}
use Rattle.planning.proofs.recording.plan_stood.Goals as goal

pub stage_in-requires : goal.stage_in-requires
stage_in-requires c =
    let g = groups_alike c.some_stands-some.ensures c.plan_groups.ensures in
    (search rules, search rules, (planned-few _ _ _ _ _ _ _ _ _ _ g c.in_ok-planned.was (omega (arith, c.requires))).0, search rules)

pub returns-in_err-planned : goal.returns-in_err-planned
returns-in_err-planned c =
    rw (passed_on _ _ c.from_residual.ensures)
    (read_unplanned _ _ _ _ _ _ _ _ _ _ _ (groups_alike c.some_stands-some.ensures c.plan_groups.ensures) c.in_err-planned.was)

pub returns-in_err-stage_in : goal.returns-in_err-stage_in
returns-in_err-stage_in c =
    let g = groups_alike c.some_stands-some.ensures c.plan_groups.ensures in
    rw (passed_on _ _ c.from_residual-in_err-stage_in.ensures)
    (read_unstaged _ _ _ _ _ _ _ _ _ _ _ g (omega (arith, c.requires)) (omega (arith, c.requires)) c.in_ok-planned.was
    (planned-few _ _ _ _ _ _ _ _ _ _ g c.in_ok-planned.was (omega (arith, c.requires))).1
    c.stage_in.ensures c.in_err-stage_in.was)

pub returns : goal.returns
returns c =
    let g = groups_alike c.some_stands-some.ensures c.plan_groups.ensures in
    read_planned _ _ _ _ _ _ _ _ _ _ _ g (omega (arith, c.requires)) (omega (arith, c.requires)) c.in_ok-planned.was
    (planned-few _ _ _ _ _ _ _ _ _ _ g c.in_ok-planned.was (omega (arith, c.requires))).1
    c.stage_in.ensures c.shared_groups.ensures c.in_ok-stage_in.was
