-- A word past the end is none.
use Rattle.records.specs.SeveralLaws.{up_none}
use Rattle.records.proofs.several.count_up.Goals as goal

pub returns-else-i-words : goal.returns-else-i-words
returns-else-i-words c = up_none _ _ _ c.if-i-words.false
