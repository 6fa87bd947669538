-- What is left of the items gives what all of them give.
use Rattle.planning.specs.TableLaws.{Filling}
use Rattle.planning.proofs.table.fill_table.Given as goal

abbrev pub invariant-loop-i : goal.invariant-loop-i
invariant-loop-i l = Filling l.image l.source l.n l.nf l.initial.table l.i l.j l.owner l.table
