-- The invariant: what is left of the sum gives what the whole sum gives.
use Rattle.ranges.specs.SeekLaws.{Summing}
use Rattle.ranges.proofs.seek.sums.Given as goal

abbrev pub invariant-loop-i : goal.invariant-loop-i
invariant-loop-i l = Summing l.image l.a l.links l.records l.w l.left l.off l.i
