-- By the length of the chain.
use mathlib.Core.Path.{refl}
use Rattle.base.specs.ChoiceLaws.{eq_yes}
use Rattle.thinning.specs.FrontLaws.{history-some}
use borrow.Author.Rules.{rules}
use Rattle.thinning.proofs.front.first_history.Goals as goal

pub returns-then-chain-eq0 : goal.returns-then-chain-eq0
returns-then-chain-eq0 c = eq_yes _ _ _ _ c.if-chain-eq0.true refl

pub returns-else-chain-eq0 : goal.returns-else-chain-eq0
returns-else-chain-eq0 c = history-some _ _ _ c.if-chain-eq0.false c.new_link.ensures
