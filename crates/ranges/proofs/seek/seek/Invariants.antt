-- The invariant: what is left of the search gives what the whole search gives.
use Rattle.ranges.specs.SeekLaws.{Seeking}
use Rattle.ranges.proofs.seek.seek.Given as goal

abbrev pub invariant-loop-i : goal.invariant-loop-i
invariant-loop-i l = Seeking l.image l.a l.links l.first l.w l.left l.off l.i
