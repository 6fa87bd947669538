-- The references that are left give what all give.
use mathlib.Core.Path.{◌≡◌}
use Rattle.plan.specs.Photos.{references, are_attached}
use Rattle.photos.specs.FollowedLaws.{refs_from}
use Rattle.photos.proofs.are_attached.Given as goal

abbrev pub invariant-loop-i : goal.invariant-loop-i
invariant-loop-i l = are_attached l.met (refs_from l.image l.c l.i) ≡ are_attached l.met (references l.image l.c)
