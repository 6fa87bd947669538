-- Each turn lays an attachment; those that are left give what all give.
use Rattle.window_copies.specs.LayingAtLaws.{at_begin, at_turn, at_end, next_end}
use mathlib.Core.Path.{refl}
use borrow.Author.Rules.{rules}
use native.Mathlib.Omega.{arith}
use Rattle.window_copies.proofs.attached.lay_attachments.Goals as goal

pub returns-then-first-gt2050 : goal.returns-then-first-gt2050
returns-then-first-gt2050 c = λ h l n k v. absurd (omega arith)

pub loop-i-init : goal.loop-i-init
loop-i-init c = (omega arith, refl, λ g t. t)

pub returns-then-own-made : goal.returns-then-own-made
returns-then-own-made c = λ h l n k v. absurd (omega (arith, next_end (c.loop-i.invariant.2 _ (at_begin _ _ _ _ _ _ _ _ _ h v)) c.loop-i-test.true))

pub loop-i-preserved : goal.loop-i-preserved
loop-i-preserved c = (
  omega arith,
  search rules,
  λ g t. at_turn (c.loop-i.invariant.2 g t) c.loop-i-test.true refl c.next_place-next.ensures
      (λ o l v m. c.lay_attachment.ensures o l (omega arith) (omega arith) v m),
)

pub returns : goal.returns
returns c = λ h l n k v. at_end (c.loop-i.invariant.2 _ (at_begin _ _ _ _ _ _ _ _ _ h v)) (omega arith)
