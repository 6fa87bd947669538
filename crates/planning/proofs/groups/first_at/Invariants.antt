-- The chain of an address gives the first of its groups.
use Rattle.planning.specs.NotedLaws.{Seeking}
use Rattle.planning.proofs.groups.first_at.Given as goal

abbrev pub invariant-loop-i : goal.invariant-loop-i
invariant-loop-i l = Seeking l.source l.n l.a l.i l.found

abbrev pub decreases-loop-i : goal.decreases-loop-i
decreases-loop-i l = l.i
