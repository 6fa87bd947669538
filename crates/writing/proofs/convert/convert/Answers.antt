-- A refusal of what was decided, or the rest.
use Rattle.std.proofs.Common.{rules}
use Rattle.fields.specs.AnswerLaws.{passed_on}
use Rattle.placing.specs.DecidesLaws.{decides_done, decides_shares, decides_refused}
use Rattle.writing.specs.FinishLaws.{stands_timed, shares-timed, refused_left, done_left, promised_by}
use Rattle.writing.proofs.convert.convert.Goals as goal

pub finish-answer-requires : goal.finish-answer-requires
finish-answer-requires c = (
  stands_timed _ (decides_done c.decide.ensures c.in_ok-found.was),
  shares-timed _ _ _ _ _ _ (decides_shares _ _ _ _ _ _ _ _ _ _ c.decide.ensures c.in_ok-found.was),
)

pub returns-in_err-found : goal.returns-in_err-found
returns-in_err-found c =
    let e = refused_left _ _ _ _ _ _ _ _ _ _ _ (decides_refused c.decide.ensures c.in_err-found.was) in
    rw (passed_on _ _ c.from_residual.ensures) (record { done = e; promised = promised_by _ _ _ _ c.are_bytes.ensures e })

pub returns : goal.returns
returns c =
    let e = done_left _ _ _ _ _ _ _ _ _ _ _ _ (decides_done c.decide.ensures c.in_ok-found.was) c.finish-answer.ensures
    c.finish-answer.auto.fragments c.clear_all.ensures in
    record { done = e; promised = promised_by _ _ _ _ c.are_bytes.ensures e }
