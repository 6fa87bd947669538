-- The words enter one after the other.
use lib.ListN.{drop}
use Rattle.work_words.specs.CopyWords.{history_at}
use Rattle.index.specs.Index.{Indexed}
use Rattle.copying.proofs.history.index_chain.Given as goal

abbrev pub invariant-loop-i : goal.invariant-loop-i
invariant-loop-i l = Indexed 1 (drop history_at l.memo) l.i l.index
