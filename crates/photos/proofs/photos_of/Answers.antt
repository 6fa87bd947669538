-- As many as the count says, none without the choice.
use native.Mathlib.Omega.{arith}
use Rattle.photos.specs.FollowedLaws.{kept_count, kept-none}
use Rattle.photos.proofs.photos_of.Goals as goal

pub returns-then-photos : goal.returns-then-photos
returns-then-photos c = (kept_count _ _ c.if-photos.true c.photo_count.ensures.0, c.photo_count.ensures.1)

pub returns-else-photos : goal.returns-else-photos
returns-else-photos c = (kept-none _ _ c.if-photos.false, omega arith)
