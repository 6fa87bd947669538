-- By the test of the kind.
use Rattle.thin_blocks.specs.AnewLaws.{kind-dt, kind-dv}
use mathlib.Core.Path.{sym, ◌∙◌}
use Rattle.thin_blocks.proofs.anew.kind_of.Goals as goal

pub returns-then-kind_at-eq-DT : goal.returns-then-kind_at-eq-DT
returns-then-kind_at-eq-DT c = kind-dt _ _ (sym c.kind_at.ensures ∙ c.if-kind_at-eq-DT.true)

pub returns-else-kind_at-eq-DT : goal.returns-else-kind_at-eq-DT
returns-else-kind_at-eq-DT c = kind-dv _ _ (λ e. c.if-kind_at-eq-DT.false (c.kind_at.ensures ∙ e))
