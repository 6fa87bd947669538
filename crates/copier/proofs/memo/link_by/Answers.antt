-- The copy that is found by the index, or by the search where the index has no room.
use mathlib.Core.Path.{◌∙◌}
use Rattle.copier.specs.StandingLaws.{link_found}
use native.Mathlib.Omega.{arith}
use Rattle.copier.proofs.memo.link_by.Goals as goal

pub returns-then-used-gt2050 : goal.returns-then-used-gt2050
returns-then-used-gt2050 c = λ t. c.new_link.ensures

pub returns : goal.returns
returns c = λ t. c.unwrap_or.ensures ∙ link_found _ (c.find_in.ensures (t (omega arith) (omega arith)))
