-- Eight words.
use Rattle.planning.specs.TableLaws.{entry_read}
use Rattle.planning.proofs.table.entry_of.Goals as goal

pub returns : goal.returns
returns c = entry_read _ _ c.word.ensures
    c.word-2.ensures
    c.word-3.ensures c.word-4.ensures
    c.word-5.ensures c.word-6.ensures c.word-7.ensures
    c.word-8.ensures
