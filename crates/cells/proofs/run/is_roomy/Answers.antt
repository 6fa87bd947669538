-- Each test is of one number, the products by divisions.
use native.Mathlib.Omega.{arith}
use Rattle.cells.specs.SpotLaws.{answer_no}
use Rattle.cells.proofs.run.is_roomy.Goals.{then-n-eq0-via-then-n-eq0, then-n-eq0-via-else-n-eq0+then-not-is_sound, then-n-eq0-via-else-n-eq0+else-not-is_sound+then-not-has_room}
use Rattle.cells.proofs.run.is_roomy.Goals as goal

pub returns-then-n-eq0 : goal.returns-then-n-eq0
returns-then-n-eq0 c =
    elim c.then-n-eq0.branch [
      | then-n-eq0-via-then-n-eq0 w ↦ answer_no (λ t. omega (arith, w.if-n-eq0.true, t.some))
      | then-n-eq0-via-else-n-eq0+then-not-is_sound w ↦ answer_no (λ t. w.is_sound.ensures.1 (w.if-not-is_sound.true) t.sound)
      | then-n-eq0-via-else-n-eq0+else-not-is_sound+then-not-has_room w ↦ answer_no (λ t. w.has_room.ensures.1 (w.if-not-has_room.true) t.room)
    ]

pub returns : goal.returns
returns c = (
  λ e. record {
    sound = c.is_sound.ensures.0 (c.if-not-is_sound.false);
    some = omega arith;
    room = c.has_room.ensures.0 (c.if-not-has_room.false);
    last = omega (arith, c.product_within.ensures.0 e);
  },
  λ t. c.product_within.ensures.1 (omega (arith, t.last)),
)
