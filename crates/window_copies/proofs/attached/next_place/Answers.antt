-- The word of the next attachment's place.
use Rattle.std.proofs.Common.{refl, arith}
use Rattle.window_copies.specs.AttachmentsLaws.{next-some, next-none, next_past}
use Rattle.window_copies.proofs.attached.next_place.Goals as goal
use Rattle.window_copies.proofs.attached.next_place.Goals.{then-count-i-via-then-count-i, then-count-i-via-else-count-i+then-all-lt4102, then-count-i-via-else-count-i+else-all-lt4102+then-i-all}

pub returns-then-count-i : goal.returns-then-count-i
returns-then-count-i c = elim c.then-count-i.branch [
  | then-count-i-via-then-count-i w ↦ next-none _ _ _ (omega (arith, w.if-count-i.true))
  | then-count-i-via-else-count-i+then-all-lt4102 w ↦ next_past _ _ _ (omega (arith, w.if-all-lt4102.true))
  | then-count-i-via-else-count-i+else-all-lt4102+then-i-all w ↦ next_past _ _ _ (omega (arith, w.if-all-lt4102.false, w.if-i-all.true))
]

pub returns : goal.returns
returns c = next-some _ _ _ (omega arith) refl
