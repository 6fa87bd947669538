-- None of those passed equals it.
use Rattle.planning.specs.ClocksLaws.{Unlike}
use Rattle.planning.proofs.clocks.first_same.Given as goal

abbrev pub invariant-loop-i : goal.invariant-loop-i
invariant-loop-i l = Unlike l.image l.source l.fragments l.table l.stands l.j l.e l.i
