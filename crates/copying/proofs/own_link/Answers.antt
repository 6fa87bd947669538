-- An FH loses its first link; any other block's is led to its copy.
use Rattle.copying.specs.CopyingLaws.{own_lost, own-led}
use native.Mathlib.Omega.{arith}
use Rattle.copying.proofs.own_link.Goals as goal

pub returns-then-kind_at-eq-FH : goal.returns-then-kind_at-eq-FH
returns-then-kind_at-eq-FH c = λ t. own_lost _ _ _ c.kind_at.ensures (omega arith)

pub returns : goal.returns
returns c = λ t. own-led _ _ _ c.kind_at.ensures (λ e. omega arith) c.link_at.ensures
    (c.link_by.ensures t)
