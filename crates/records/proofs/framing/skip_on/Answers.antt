-- What is left to skip of what is then ahead gives what the whole gives.
use Rattle.records.specs.AheadLaws.{part_high, spot_stay, spot_move, spot_over}
use mathlib.Core.Path.{refl, ◌∙◌}
use native.Mathlib.Omega.{arith}
use Rattle.records.proofs.framing.skip_on.Goals as goal

pub loop-more-init : goal.loop-more-init
loop-more-init c = (omega arith, refl)

pub overflow_add-result : goal.overflow_add-result
overflow_add-result c =
    let h = part_high c.loop-more.spot.position c.loop-more.spot.left
    c.args.image.now in let e = c.inside-here.ensures in omega arith

pub returns-then-more-here : goal.returns-then-more-here
returns-then-more-here c = spot_stay _ _ _ _ _ _ c.inside-here.ensures c.if-more-here.true ∙ c.loop-more.invariant.1

pub returns-then-n-spot : goal.returns-then-n-spot
returns-then-n-spot c =
    spot_over _ _ _ _ _ _ c.inside-here.ensures c.loop-more.invariant.1 c.if-more-here.false
    (omega arith)

pub returns-then-n-spot-lt3 : goal.returns-then-n-spot-lt3
returns-then-n-spot-lt3 c =
    spot_over _ _ _ _ _ _ c.inside-here.ensures c.loop-more.invariant.1
    c.if-more-here.false (omega arith)

pub loop-more-preserved : goal.loop-more-preserved
loop-more-preserved c = (
  omega arith,
  spot_move _ _ _ _ _ _ c.inside-here.ensures
      c.loop-more.invariant.1 c.if-more-here.false (omega
      arith)
      c.word_at.ensures c.word_at-in-loop-more.ensures,
)
