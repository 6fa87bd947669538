-- The byte asked for, of what is then ahead, is the byte of the whole.
use Rattle.records.specs.AheadLaws.{part_high, byte_here, byte_move, byte_over}
use Rattle.records.specs.GroupLaws.{byte_is}
use mathlib.Core.Path.{refl, ◌∙◌}
use native.Mathlib.Omega.{arith}
use Rattle.records.proofs.framing.byte_at.Goals as goal

pub loop-more-init : goal.loop-more-init
loop-more-init c = refl

pub overflow_add-spot : goal.overflow_add-spot
overflow_add-spot c =
    let h = part_high c.loop-more.spot.position c.loop-more.spot.left
    c.args.image.now in let e = c.inside-here.ensures in omega arith

pub returns-then-more-here : goal.returns-then-more-here
returns-then-more-here c =
    record {
      is = byte_is _ _ c.field_at.ensures.is
          ∙ byte_here _ _ _ _ _ _ c.inside-here.ensures c.loop-more.invariant
          c.if-more-here.true;
      small = c.field_at.ensures.small;
    }

pub returns-then-n-spot : goal.returns-then-n-spot
returns-then-n-spot c =
    record {
      is = byte_over _ _ _ _ _ _ c.inside-here.ensures c.loop-more.invariant
          c.if-more-here.false
          (omega arith);
      small = omega arith;
    }

pub returns-then-n-spot-lt3 : goal.returns-then-n-spot-lt3
returns-then-n-spot-lt3 c =
    record {
      is = byte_over _ _ _ _ _ _ c.inside-here.ensures c.loop-more.invariant
          c.if-more-here.false (omega arith);
      small = omega arith;
    }

pub loop-more-preserved : goal.loop-more-preserved
loop-more-preserved c =
    byte_move _ _ _ _ _ _ c.inside-here.ensures
    c.loop-more.invariant c.if-more-here.false (omega arith)
    c.word_at.ensures c.word_at-in-loop-more.ensures
