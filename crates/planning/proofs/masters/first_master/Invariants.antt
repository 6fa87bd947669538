-- What is left of the search gives what the whole search gives.
use Rattle.planning.specs.TimeLaws.{Mastering}
use Rattle.planning.proofs.masters.first_master.Given as goal

abbrev pub invariant-loop-k : goal.invariant-loop-k
invariant-loop-k l = Mastering l.image l.source l.n l.i l.g l.k
