-- The refusal of the check is passed on, then that of the list; else the first link is next.
use Rattle.fields.specs.AnswerLaws.{passed_on}
use Rattle.chains.specs.KeptLaws.{counted_by}
use Rattle.chains.specs.TurnLaws.{list_for_lem, list_lies, dl_refused, dl_stop, dl-next}
use Rattle.chains.proofs.chain.Walk.list_step.Goals as goal

pub returns-in_err-counted : goal.returns-in_err-counted
returns-in_err-counted c =
    rw (passed_on _ _ c.from_residual.ensures)
    (dl_refused _ _ _ _ _ _ _ (list_for_lem c.args.self.file _ _ _ c.dl_bytes.ensures c.list_in.ensures)
    (counted_by _ c.list_in.result c.counted.ensures) c.in_err-counted.was)

pub list-requires : goal.list-requires
list-requires c =
    list_lies c.args.self.file _ _ _ (list_for_lem c.args.self.file _ _ _ c.dl_bytes.ensures c.list_in.ensures)
    ((counted_by _ c.list_in.result c.counted.ensures).ok c.in_ok-counted.was)

pub returns-in_err-count : goal.returns-in_err-count
returns-in_err-count c =
    rw (passed_on _ _ c.from_residual-in_err-count.ensures)
    (dl_stop _ _ _ _ _ _ _ (list_for_lem c.args.self.file _ _ _ c.dl_bytes.ensures c.list_in.ensures)
    (counted_by _ c.list_in.result c.counted.ensures) c.in_ok-counted.was c.list.ensures c.in_err-count.was)

pub returns : goal.returns
returns c =
    dl-next _ _ _ _ _ _ _ (list_for_lem c.args.self.file _ _ _ c.dl_bytes.ensures c.list_in.ensures)
    (counted_by _ c.list_in.result c.counted.ensures) c.in_ok-counted.was c.list.ensures c.in_ok-count.was
    c.first_link-next.ensures
