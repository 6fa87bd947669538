-- The refusal of the check is passed on; else the first link is next.
use Rattle.fields.specs.AnswerLaws.{passed_on}
use Rattle.chains.specs.KeptLaws.{counted_by}
use Rattle.chains.specs.TurnLaws.{header_for, hl_refused, hl_next}
use Rattle.chains.proofs.chain.Walk.header_step.Goals as goal

pub returns-in_err-counted : goal.returns-in_err-counted
returns-in_err-counted c =
    rw (passed_on _ _ c.from_residual.ensures)
    (hl_refused _ _ _ _ _ _ (header_for c.args.self.file _ _ _ c.list_in.ensures) (counted_by _ c.list_in.result c.counted.ensures)
    c.in_err-counted.was)

pub returns : goal.returns
returns c =
    hl_next _ _ _ _ _ _ (header_for c.args.self.file _ _ _ c.list_in.ensures) (counted_by _ c.list_in.result c.counted.ensures)
    c.in_ok-counted.was c.first_link.ensures
