-- What was counted and what is left give what all of them give; two are enough.
use Rattle.planning.specs.ComparedLaws.{Keying}
use Rattle.planning.proofs.compared.is_compared.Given as goal

abbrev pub invariant-loop-j : goal.invariant-loop-j
invariant-loop-j l = Keying l.image l.e l.table l.n l.j l.many
