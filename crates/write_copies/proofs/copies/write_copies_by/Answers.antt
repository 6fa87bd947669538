-- Each turn writes a copy; the copies that are left end what all are.
use Rattle.write_copies.specs.CopiesLaws.{copies_begin, next-copy, copies_turn, copies_end}
use mathlib.Core.Path.{refl}
use borrow.Author.Rules.{rules}
use native.Mathlib.Omega.{arith}
use Rattle.write_copies.proofs.copies.write_copies_by.Goals as goal

pub loop-i-init : goal.loop-i-init
loop-i-init c = (refl, λ h l k x y. copies_begin _ _ _ _ _ _ _ _ _ h l k)

pub loop-i-preserved : goal.loop-i-preserved
loop-i-preserved c = (
  search rules,
  λ h l k x y.
      let t = c.loop-i.invariant.1 h l k x y in
      let n = next-copy t c.loop-i-test.true in
      copies_turn t c.loop-i-test.true (c.write_copy-p.ensures n.begins n.whole n.ends x y) (search rules),
)

pub returns : goal.returns
returns c = λ h l k x y. copies_end (c.loop-i.invariant.1 h l k x y) (omega arith)
