-- By the group's kind; of a storage group the length must be there.
use Rattle.records.specs.AheadLaws.{ahead-counts}
use Rattle.records.specs.FrameLaws.{body-short, body-length, body-plain}
use Rattle.records.specs.AnswerLaws.{so_past, so_to}
use Rattle.records.proofs.framing.body_of.Goals as goal

pub returns-in_err-skip_on : goal.returns-in_err-skip_on
returns-in_err-skip_on c =
    rw c.from_residual.ensures
    (body-short _ _ _ (ahead-counts _ _ _ _ _) c.is_storage.ensures c.if-is_storage.true
    (so_past _ _ _ _ c.skip_on.ensures c.in_err-skip_on.was))

pub returns-then-is_storage : goal.returns-then-is_storage
returns-then-is_storage c =
    body-length _ _ _ (ahead-counts _ _ _ _ _) c.is_storage.ensures c.if-is_storage.true
    (so_to _ _ _ _ c.skip_on.ensures c.in_ok-skip_on.was) c.length_at.ensures.is

pub returns : goal.returns
returns c =
    body-plain _ _ _ c.is_storage.ensures c.if-is_storage.false c.samples_of.ensures.is c.inval_bytes.ensures.is
