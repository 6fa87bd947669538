-- The next column's word, if there is one.
use Rattle.std.proofs.Common.{refl, arith}
use Rattle.writing.specs.Structure.{next_place}
use Rattle.base.specs.ChoiceLaws.{lt_yes, lt_no}
use Rattle.writing.proofs.placed.place_after.Goals as goal
use Rattle.writing.proofs.placed.place_after.Goals.{
  then-n-k-via-then-n-k,
  then-n-k-via-else-n-k+then-n-k-eq1,
  then-n-k-via-else-n-k+else-n-k-eq1+then-n-gt512,
  then-n-k-via-else-n-k+else-n-k-eq1+else-n-gt512+then-memo-lt8192,
}

pub returns-then-n-k : goal.returns-then-n-k
unfolding next_place
returns-then-n-k c f l = elim c.then-n-k.branch [
  | then-n-k-via-then-n-k w ↦ lt_no _ _ _ _ (omega (arith, w.if-n-k.true)) refl
  | then-n-k-via-else-n-k+then-n-k-eq1 w ↦ lt_no _ _ _ _ (omega (arith, w.if-n-k-eq1.true)) refl
  | then-n-k-via-else-n-k+else-n-k-eq1+then-n-gt512 w ↦ absurd (omega (arith, w.if-n-gt512.true))
  | then-n-k-via-else-n-k+else-n-k-eq1+else-n-gt512+then-memo-lt8192 w ↦ absurd (omega (arith, w.if-memo-lt8192.true))
]

pub returns : goal.returns
unfolding next_place
returns c f l = lt_yes _ _ _ _ (omega arith) refl
