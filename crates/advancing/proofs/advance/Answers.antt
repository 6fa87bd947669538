use Rattle.std.proofs.Common.{◌+◌, ◌-◌, ◌≡◌, min, ap, ◌∙◌, arith}
use Rattle.advancing.specs.AdvancesLaws.{going_begin, going_turn, going_end, advancing_begin, right_turn, right_end}
use Rattle.advancing.proofs.advance.Goals as goal

pub loop-init : goal.loop-init
loop-init c =
    let n = c.min-n.ensures ∙ ap (min _) c.left.ensures in
    let all : c.min-n.result - 0 ≡ c.min-n.result = omega arith in
    (rw all (going_begin _ _ _ _ _ (omega (arith, n))), λ h l m. advancing_begin _ _ _ _ _ _ (omega (arith, n)) h)

pub loop-preserved : goal.loop-preserved
loop-preserved c =
    let one : c.min-n.result - c.loop.counter - 1 ≡ c.min-n.result - (c.loop.counter + 1) = omega arith in rw (← one) (
      going_turn c.loop.invariant.0 (omega (arith, c.loop-test.true)) c.step-r.ensures.bounded (record {
        whole = c.step-r.auto.file;
        listed = c.step-r.auto.list;
        source = c.step-r.auto.source;
        fragments = c.step-r.auto.fragments;
        columns = c.step-r.auto.columns;
        copies = c.step-r.auto.copies;
        stretches = c.step-r.auto.stretches;
        offsets = c.step-r.auto.offsets;
      }),
      λ h l m. right_turn _ _ _ _ c.loop.invariant.0 _ (omega (arith, c.loop-test.true)) c.step-r.ensures.bounded c.step-r.ensures.right (c.loop.invariant.1 h l m) l m,
    )

pub returns : goal.returns
returns c =
    let n = c.min-n.ensures ∙ ap (min _) c.left.ensures in record { right = λ h l m. right_end _ _ _ _ c.loop.invariant.0 _ n (omega (arith, c.loop-test.false)) h (c.loop.invariant.1 h l m); bounded = going_end c.loop.invariant.0 _ n (omega (arith, c.loop-test.false)) }
