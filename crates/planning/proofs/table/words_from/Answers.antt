-- No more than there are.
use Rattle.planning.specs.TableLaws.{words-from}
use Rattle.planning.proofs.table.words_from.Goals as goal

pub returns : goal.returns
returns c = words-from _ _ _ c.min.ensures c.min-2.ensures
