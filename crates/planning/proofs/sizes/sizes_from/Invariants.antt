-- The sum so far and the fragments left give the whole.
use Rattle.planning.specs.SizesLaws.{Summing}
use Rattle.planning.proofs.sizes.sizes_from.Given as goal

abbrev pub invariant-loop-left : goal.invariant-loop-left
invariant-loop-left l = Summing l.fragments l.i l.n l.k l.left l.sum

abbrev pub decreases-loop-left : goal.decreases-loop-left
decreases-loop-left l = l.left
