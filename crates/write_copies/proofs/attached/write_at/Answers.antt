-- Zeros up to the place, then the AT in the part that is lent; what lies elsewhere has no room.
use Rattle.write_copies.specs.CopiesLaws.{wrote_placed}
use Rattle.copies_laws.specs.LengthLaws.{length_at}
use Rattle.puts.specs.PutLaws.{lent_is}
use mathlib.Core.Path.{sym, ◌∙◌}
use native.Mathlib.Omega.{arith}
use Rattle.write_copies.proofs.attached.write_at.Goals as goal
use Rattle.write_copies.proofs.attached.write_at.Goals.{then-place-at-via-then-place-at, then-place-at-via-else-place-at+then-all-place, then-place-at-via-else-place-at+else-all-place+then-size-all}

pub returns-then-place-at : goal.returns-then-place-at
returns-then-place-at c = λ h m e x. absurd (elim c.then-place-at.branch [
  | then-place-at-via-then-place-at w ↦ omega (arith, w.if-place-at.true)
  | then-place-at-via-else-place-at+then-all-place w ↦ omega (arith, w.if-all-place.true)
  | then-place-at-via-else-place-at+else-all-place+then-size-all w ↦ omega (arith, w.if-size-all.true)
])

pub returns : goal.returns
returns c = λ h m e x. wrote_placed _ _ _ _ _ _ h (length_at _ _ _ _ m ∙ sym c.size_at-size.ensures) c.gap.ensures (lent_is _ _ _ _ (c.put_at.ensures x))
