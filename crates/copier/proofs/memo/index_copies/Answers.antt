-- The copies enter one after the other.
use mathlib.Core.Path.{◌≡◌, ◌∙◌, refl}
use Rattle.index.specs.IndexLaws.{entered_is}
use Rattle.copier.specs.IndexLaws.{index_begin, index_more}
use native.Mathlib.Omega.{arith}
use Rattle.copier.proofs.memo.index_copies.Goals as goal

pub returns-then-used-gt2050 : goal.returns-then-used-gt2050
returns-then-used-gt2050 c = λ h k. absurd (omega arith)

pub loop-n-init : goal.loop-n-init
loop-n-init c = index_begin _

pub loop-n-preserved : goal.loop-n-preserved
loop-n-preserved c = rw (c.enter_at.ensures ∙ entered_is _ _ _ _ (omega arith) (omega arith)) (index_more _ _ _ _ _ (omega arith) c.loop-n.invariant (λ i l. refl) refl refl)

pub returns : goal.returns
returns c = λ h k. let e : c.args.used ≡ c.loop-n.n = omega arith in rw e c.loop-n.invariant
