-- Each turn lays a copy; the copies that are left give what all give.
use Rattle.window_copies.specs.LayingLaws.{laying_turn, laying_end}
use mathlib.Core.Path.{refl}
use borrow.Author.Rules.{rules}
use native.Mathlib.Omega.{arith}
use Rattle.window_copies.proofs.copies.lay_copies_by.Goals as goal

pub loop-i-init : goal.loop-i-init
loop-i-init c = (refl, λ g t x l. l)

pub loop-i-preserved : goal.loop-i-preserved
loop-i-preserved c = (search rules, λ g t x l. laying_turn (c.loop-i.invariant.1 g t x l) c.loop-i-test.true (λ h. c.lay_copy.ensures t x h))

pub returns : goal.returns
returns c = λ g t x l. laying_end (c.loop-i.invariant.1 g t x l) (omega arith)
