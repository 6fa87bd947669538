-- Reading, then the plan of what was read.
use native.Mathlib.Omega.{arith}
use Rattle.fields.specs.AnswerLaws.{passed_on}
use Rattle.planning.specs.AnswerLaws.{read_few, all_unread, all-planned}
use borrow.Author.Rules.{rules}
use Rattle.planning.proofs.recording.plan_all.Goals as goal

pub plan_read-requires : goal.plan_read-requires
plan_read-requires c =
    let few = read_few _ _ _ (omega (arith, c.requires)) (omega (arith, c.requires)) _ _ c.read.ensures c.in_ok-met.was in
    (few.0, few.1, search rules, search rules)

pub returns-in_err-met : goal.returns-in_err-met
returns-in_err-met c = λ _.
    rw (passed_on _ _ c.from_residual.ensures)
    (all_unread _ _ _ (omega (arith, c.requires)) (omega (arith, c.requires)) _ _ c.read.ensures _ _ _ c.in_err-met.was)

pub returns : goal.returns
returns c =
    all-planned _ _ _ (omega (arith, c.requires)) (omega (arith, c.requires)) _ _ c.read.ensures c.in_ok-met.was _ _ _ c.plan_read.ensures
