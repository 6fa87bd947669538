use mathlib.Core.Path.{refl}
use Rattle.steps.specs.StepsLaws.{step_further, step_before, step_last, holds-moved, list-fits, further_bounded, before_bounded, last_bounded, before_steps, last_step}
use native.Mathlib.Omega.{arith}
use Rattle.steps.proofs.step.step.Goals as goal

pub returns-then-k : goal.returns-then-k
returns-then-k c = record { right = λ h l m. record { runs = step_further h _ _ c.if-k.true; holds = λ g. absurd (omega (arith, g, c.if-k.true)) }; bounded = further_bounded _ _ _ _ c.if-k.true }

pub after-r-requires : goal.after-r-requires
after-r-requires c = c.if-k.false

pub returns-then-r-k : goal.returns-then-r-k
returns-then-r-k c =
    let n = c.after-r.ensures in
    let lt = before_steps _ n c.if-r-k.true in record {
      right = λ h l m.
          let s = c.store.ensures.right h c.if-k.false l in
          record { runs = step_before h _ _ lt n s.1; holds = λ g. holds-moved h n s.0 };
      bounded = before_bounded _ _ _ _ lt n c.store.ensures.bounded refl;
    }

pub returns : goal.returns
returns c =
    let n = c.after-r.ensures in
    let e = last_step _ n c.if-k.false c.if-r-k.false in record {
      right = λ h l m.
          let s = c.store.ensures.right h c.if-k.false l in
          record { runs = step_last h _ _ e n s.1 (c.close.ensures.right m (list-fits h)); holds = λ g. absurd (omega (arith, g, e)) };
      bounded = last_bounded _ _ _ c.store.new.stretches c.store.new.offsets e n c.store.ensures.bounded c.store.auto.stretches c.store.auto.offsets c.close.ensures.cleared;
    }
