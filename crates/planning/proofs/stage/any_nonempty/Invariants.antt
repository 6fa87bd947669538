-- What is left of the columns gives what all of them give.
use Rattle.planning.specs.DataWordsLaws.{Nonempty}
use Rattle.planning.proofs.stage.any_nonempty.Given as goal

abbrev pub invariant-loop-k : goal.invariant-loop-k
invariant-loop-k l = Nonempty l.image l.columns l.d l.n l.k
