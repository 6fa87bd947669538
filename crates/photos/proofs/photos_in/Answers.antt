-- The tests in order.
use mathlib.Core.Path.{sym, ◌∙◌}
use Rattle.photos.specs.FollowedLaws.{photos_off, photos_short, photos_led, photos_astray, photos_none}
use native.Mathlib.Omega.{arith}
use Rattle.photos.proofs.photos_in.Goals as goal

pub returns-then-not-photos : goal.returns-then-not-photos
returns-then-not-photos c = photos_off _ _ c.if-not-photos.true

pub returns-then-links_at-n : goal.returns-then-links_at-n
returns-then-links_at-n c = photos_short _ _ c.if-not-photos.false (omega arith)

pub returns-then-n-eq0 : goal.returns-then-n-eq0
returns-then-n-eq0 c = photos_none _ _ c.if-not-photos.false (omega arith) (omega arith)

pub returns-then-are_photos : goal.returns-then-are_photos
returns-then-are_photos c = photos_led _ _ c.if-not-photos.false (omega arith) (sym c.are_photos.ensures ∙ c.if-are_photos.true)

pub returns : goal.returns
returns c = photos_astray _ _ c.if-not-photos.false (omega arith) (sym c.are_photos.ensures ∙ c.if-are_photos.false)
