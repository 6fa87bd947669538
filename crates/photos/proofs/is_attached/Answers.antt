-- 0, or as the search says.
use mathlib.Core.Path.{refl, ◌∙◌}
use borrow.Author.Tests.{eq-eqb, ne_eqb}
use Rattle.photos.specs.FollowedLaws.{is_in-any}
use Rattle.photos.proofs.is_attached.Goals as goal

pub returns-then-a-eq0 : goal.returns-then-a-eq0
returns-then-a-eq0 c = rw (eq-eqb _ 0 c.if-a-eq0.true) refl

pub returns-else-a-eq0 : goal.returns-else-a-eq0
returns-else-a-eq0 c = rw (ne_eqb _ 0 c.if-a-eq0.false) (c.contains.ensures.value ∙ is_in-any _ _)
