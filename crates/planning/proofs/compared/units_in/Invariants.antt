-- What is left of the entries gives what all of them give.
use Rattle.planning.specs.Compared.{unit_over}
use Rattle.planning.specs.ComparedLaws.{Checking}
use Rattle.planning.proofs.compared.units_in.Given as goal

abbrev pub invariant-loop-j : goal.invariant-loop-j
invariant-loop-j l = Checking (unit_over l.image) l.table l.n l.j
