-- Each turn puts a run of records, or one that lies in several fragments; the numbers agree whatever the image is.
use mathlib.Core.Path.{refl, sym, ◌∙◌}
use mathlib.Core.Bool.{false≢true}
use native.Mathlib.Omega.{arith}
use Rattle.cells.specs.SpotLaws.{readable_roomy, roomy_next, stretching_some, stretching_turn, stretching_end}
use Rattle.cells.proofs.run.put_stretch.Goals as goal

pub returns-then-not-is_roomy : goal.returns-then-not-is_roomy
returns-then-not-is_roomy c w t y r = absurd (false≢true (sym (c.if-not-is_roomy.true) ∙ c.is_roomy.ensures.1 (readable_roomy w y r)))

pub loop-left-init : goal.loop-left-init
loop-left-init c = (c.is_roomy.ensures.0 (c.if-not-is_roomy.false), refl, λ w t y. record { lying = y; spot = t; bytes = refl })

pub put_some-m-requires : goal.put_some-m-requires
put_some-m-requires c =
    let v = c.loop-left.invariant in
    (v.0.sound, v.0.some, omega (arith, v.0.room, v.1))

pub returns-then-m-left : goal.returns-then-m-left
returns-then-m-left c w t y r =
    let v = c.loop-left.invariant.2 w t y in
    let x = stretching_some v w c.put_some-m.result (omega arith) c.reach-k.ensures c.put_some-m.ensures.2 in
    (x.0, stretching_end v w c.put_some-m.result c.if-m-left.true x.1)

pub overflow_sub-left : goal.overflow_sub-left
overflow_sub-left c = omega (arith, c.put_some-m.ensures.1)

pub overflow_mul-at : goal.overflow_mul-at
overflow_mul-at c = omega (arith, (roomy_next c.loop-left.invariant.0 c.put_some-m.result (omega (arith, c.put_some-m.ensures.1))).last)

pub overflow_add-at : goal.overflow_add-at
overflow_add-at c = omega (arith, (roomy_next c.loop-left.invariant.0 c.put_some-m.result (omega (arith, c.put_some-m.ensures.1))).last)

pub overflow_mul-index : goal.overflow_mul-index
overflow_mul-index c = omega (arith, (roomy_next c.loop-left.invariant.0 c.put_some-m.result (omega (arith, c.put_some-m.ensures.1))).room)

pub overflow_add-index : goal.overflow_add-index
overflow_add-index c = omega (arith, (roomy_next c.loop-left.invariant.0 c.put_some-m.result (omega (arith, c.put_some-m.ensures.1))).room)

pub loop-left-smaller : goal.loop-left-smaller
loop-left-smaller c = let e = c.put_some-m.ensures in omega (arith, e.0, e.1)

pub loop-left-preserved : goal.loop-left-preserved
loop-left-preserved c =
    let i = c.loop-left.invariant in
    let m = c.put_some-m.result in
    let f = c.put_some-m.ensures.1 in (
      roomy_next i.0 m (omega (arith, f)),
      omega (arith, i.1, c.put_some-m.auto.out),
      λ w t y.
          let v = i.2 w t y in
          let x = stretching_some v w m (omega arith) c.reach-k.ensures c.put_some-m.ensures.2 in
          stretching_turn v w m x.0 (omega (arith, f)) x.1,
    )
