-- What is left of the items gives what all of them give.
use Rattle.planning.specs.DataWordsLaws.{DataLeft}
use Rattle.planning.proofs.data.all_data_in.Given as goal

abbrev pub invariant-loop-i : goal.invariant-loop-i
invariant-loop-i l = DataLeft l.image l.columns l.fragments l.nf l.nc l.source l.n l.i
