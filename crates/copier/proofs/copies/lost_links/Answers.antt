-- Only an FH loses a link.
use mathlib.Core.Path.{refl}
use native.Mathlib.Omega.{arith}
use Rattle.base.specs.ChoiceLaws.{eq_yes, eq_no}
use Rattle.plan.specs.Copies.{lost_links}
use Rattle.copier.proofs.copies.lost_links.Goals as goal

pub returns-then-kind_at-eq-FH : goal.returns-then-kind_at-eq-FH
unfolding lost_links
returns-then-kind_at-eq-FH c = eq_yes _ _ _ _ (omega arith) refl

pub returns-else-kind_at-eq-FH : goal.returns-else-kind_at-eq-FH
unfolding lost_links
returns-else-kind_at-eq-FH c = eq_no _ _ _ _ (omega arith) refl
