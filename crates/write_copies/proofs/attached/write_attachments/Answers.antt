-- Each turn writes an attachment; those that are left end what all are.
use Rattle.write_copies.specs.AttachmentsLaws.{attachments_begin, next_end, next_placing, attachments_turn, attachments_end_lem}
use mathlib.Core.Path.{refl}
use borrow.Author.Rules.{rules}
use native.Mathlib.Omega.{arith}
use Rattle.write_copies.proofs.attached.write_attachments.Goals as goal

pub returns-then-first-gt2050 : goal.returns-then-first-gt2050
returns-then-first-gt2050 c = λ h u f k l. absurd (omega arith)

pub loop-i-init : goal.loop-i-init
loop-i-init c = (omega arith, refl, λ h u l. attachments_begin _ _ _ _ _ _ _ _ _ h l)

pub returns-then-own-made : goal.returns-then-own-made
returns-then-own-made c = λ h u f k l. absurd (omega (arith, next_end (c.loop-i.invariant.2 h u l) c.loop-i-test.true))

pub loop-i-preserved : goal.loop-i-preserved
loop-i-preserved c = (
  omega arith,
  search rules,
  λ h u l.
      let t = c.loop-i.invariant.2 h u l in
      let k = c.loop-i-test.true in
      attachments_turn t k refl c.next_place-next.ensures
      (c.write_attachment-p.ensures (omega arith) (next_end t k) (next_placing t k refl) c.index_copies-index.ensures c.index_chain-chained.ensures) (search rules),
)

pub returns : goal.returns
returns c = λ h u f k l. attachments_end_lem (c.loop-i.invariant.2 h u l) (omega arith)
