-- What is passed over leaves the window as it is.
use Rattle.window_copies.specs.Laying.{Passed}
use Rattle.window_copies.proofs.copies.first_in.Given as goal

abbrev pub invariant-loop-i : goal.invariant-loop-i
invariant-loop-i l = Passed l.image l.memo l.a l.n l.to l.from l.i
