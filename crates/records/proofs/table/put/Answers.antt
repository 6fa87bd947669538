-- A word past the end is none; else the store is the contract.
use Rattle.records.specs.SeveralLaws.{up_none}
use Rattle.records.proofs.table.put.Goals as goal

pub returns-else-i-words : goal.returns-else-i-words
returns-else-i-words c = up_none _ _ _ c.if-i-words.false
