-- The chain's own answer, where references are kept.
use Rattle.fields.specs.AnswerLaws.{passed_on}
use Rattle.photos.specs.FollowedLaws.{first_off, first_refused, first_fine}
use Rattle.photos.proofs.photos_first.Goals as goal

pub returns-in_err-follow : goal.returns-in_err-follow
returns-in_err-follow c = rw (passed_on _ _ c.from_residual.ensures) (first_refused _ c.if-photos.true c.in_err-follow.ensures)

pub returns-in_ok-follow : goal.returns-in_ok-follow
returns-in_ok-follow c = first_fine _ c.if-photos.true c.in_ok-follow.ensures.0

pub returns-else-photos : goal.returns-else-photos
returns-else-photos c = first_off _ c.if-photos.false
