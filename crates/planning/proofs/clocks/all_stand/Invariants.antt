-- The words so far are those of the first groups.
use Rattle.planning.specs.ClocksLaws.{StandLeft}
use Rattle.planning.proofs.clocks.all_stand.Given as goal

abbrev pub invariant-loop-j : goal.invariant-loop-j
invariant-loop-j l = StandLeft l.image l.source l.fragments l.table l.n l.initial.stands l.j l.stands
