use Rattle.std.specs.Prelude.{Ok, Err}
use Rattle.std.proofs.Common.{refl}
use Rattle.fields.specs.AnswerLaws.{passed_on}
use Rattle.steps.specs.StepsLaws.{starts_as}
use Rattle.steps.proofs.begin.begin.Goals as goal

pub returns-in_err-decided : goal.returns-in_err-decided
returns-in_err-decided c =
    rw (passed_on _ _ c.from_residual.ensures)
    (starts_as _ _ _ _ c.args.time c.args.choices _ _ _ _ _ _ _ c.args.stretches.now c.args.offsets.now (Err c.in_err-decided.field-0.0) _ _ _ _ refl
    (rw c.in_err-decided.was at c.begin.ensures c.args.time) c.clear.ensures c.clear-2.ensures)

pub returns : goal.returns
returns c =
    starts_as _ _ _ _ _ _ _ _ _ _ _ _ _ c.args.stretches.now c.args.offsets.now (Ok c.in_ok-decided.decided) _ _ _ _ {y = Ok (record { conversion = c.begun.result; report = c.in_ok-decided.decided.report })}
    (rw c.begun.ensures refl)
    (rw c.in_ok-decided.was at c.begin.ensures c.args.time) c.clear.ensures c.clear-2.ensures
