-- What is left of the columns gives what all of them give.
use Rattle.planning.specs.DataWordsLaws.{Signals}
use Rattle.planning.proofs.data.signals_in.Given as goal

abbrev pub invariant-loop-k : goal.invariant-loop-k
invariant-loop-k l = Signals l.image l.columns l.fragments l.d l.n l.k
