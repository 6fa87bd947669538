-- What is left of the search gives what the whole search gives.
use Rattle.planning.specs.WordLaws.{Searching}
use Rattle.planning.proofs.words.time_column.Given as goal

abbrev pub invariant-loop-k : goal.invariant-loop-k
invariant-loop-k l = Searching l.w l.g l.n l.k
