-- What is left of the entries gives what all of them give.
use Rattle.planning.specs.Table.{entries_at}
use Rattle.planning.specs.ComparedLaws.{Seeing}
use Rattle.planning.proofs.compared.any_compared.Given as goal

abbrev pub invariant-loop-j : goal.invariant-loop-j
invariant-loop-j l = Seeing l.image (entries_at l.table 0 l.n) l.d l.table l.n l.j
