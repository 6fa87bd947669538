-- The refusals in order, then the words.
use Rattle.fields.specs.AnswerLaws.{passed_on}
use Rattle.taking.specs.TakesLaws.{photos_first_lem, photos_refused, photos_put}
use Rattle.taking.proofs.take.take_marked.Goals as goal

pub returns-in_err-photos_first : goal.returns-in_err-photos_first
returns-in_err-photos_first c = λ ns r. rw (passed_on _ _ c.from_residual.ensures) (photos_first_lem _ _ c.photos_first.ensures _ _ _ _ c.in_err-photos_first.was)

pub returns-in_err-photos_kept : goal.returns-in_err-photos_kept
returns-in_err-photos_kept c = λ ns r.
    rw (passed_on _ _ c.from_residual-in_err-photos_kept.ensures)
    (photos_refused _ _ c.photos_first.ensures c.in_ok-photos_first.was (c.photos_kept.ensures ns r) _ _ _ _ c.in_err-photos_kept.was)

pub returns : goal.returns
returns c = λ ns r.
    photos_put _ _ c.photos_first.ensures c.in_ok-photos_first.was (c.photos_kept.ensures ns r) c.in_ok-photos_kept.was c.args.file.now.few c.put_kept.ensures.0
    (c.put_kept.ensures.1 ns r)
