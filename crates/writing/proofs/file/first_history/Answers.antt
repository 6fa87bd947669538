use Rattle.std.proofs.Common.{refl, rules}
use Rattle.base.specs.ChoiceLaws.{eq_yes, eq_no}
use Rattle.writing.specs.StructureLaws.{link_new}
use Rattle.writing.proofs.file.first_history.Goals as goal

-- src/file.rt:39:9
pub returns-then-chain-eq0 : goal.returns-then-chain-eq0
returns-then-chain-eq0 c = eq_yes _ _ _ _ c.if-chain-eq0.true refl

-- src/file.rt:35:1
pub returns : goal.returns
returns c = eq_no _ _ _ _ c.if-chain-eq0.false (link_new _ _ _ c.new_link.ensures c.word-a.ensures)
