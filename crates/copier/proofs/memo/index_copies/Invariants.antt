-- The copies enter one after the other.
use Rattle.copier.specs.Index.{Indexed}
use Rattle.copier.proofs.memo.index_copies.Given as goal

abbrev pub invariant-loop-n : goal.invariant-loop-n
invariant-loop-n l = Indexed l.memo l.n l.index
