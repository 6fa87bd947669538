-- What is left of U less the bases of the jobs from number i on stays the same.
use Rattle.std.proofs.Common.{length}
use Rattle.shares.specs.EightsLaws.{Lowering}
use Rattle.shares.proofs.left_over.Given as goal

abbrev pub invariant-loop-i : goal.invariant-loop-i
invariant-loop-i l = Lowering l.caps l.left l.u l.q (length l.caps) l.rest l.i
