-- The references that are left give what all give.
use mathlib.Core.Path.{◌∙◌, ap}
use Rattle.plan.specs.Photos.{are_attached}
use Rattle.photos.specs.FollowedLaws.{refs_begin, attached_next, attached_not, attached_end}
use native.Mathlib.Omega.{arith}
use Rattle.photos.proofs.are_attached.Goals as goal

pub loop-i-init : goal.loop-i-init
loop-i-init c = ap (are_attached _) (refs_begin _ _)

pub returns-then-not-is_attached : goal.returns-then-not-is_attached
returns-then-not-is_attached c =
    attached_not _ _ _ _ (omega arith) c.link_at-a.ensures c.is_attached.ensures c.if-not-is_attached.true ∙ c.loop-i.invariant

pub loop-i-preserved : goal.loop-i-preserved
loop-i-preserved c =
    attached_next _ _ _ _ (omega arith) c.link_at-a.ensures c.is_attached.ensures c.if-not-is_attached.false ∙ c.loop-i.invariant

pub returns : goal.returns
returns c = attached_end _ _ _ _ (omega arith) ∙ c.loop-i.invariant
