-- By the kind of the group.
use Rattle.records.specs.TableLaws.{word-stored, word-plain}
use Rattle.records.proofs.table.size_word.Goals as goal

pub returns-then-is_storage : goal.returns-then-is_storage
returns-then-is_storage c = word-stored _ _ c.is_storage.ensures c.if-is_storage.true

pub returns : goal.returns
returns c =
    word-plain _ _ c.is_storage.ensures c.if-is_storage.false c.samples_of.ensures.is
    c.inval_bytes.ensures.is
