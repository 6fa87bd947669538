-- Each turn puts the records of one block: the header, where the first begins it, then their cells.
use Prim.Native.Nat.{◌-◌}
use Rattle.data_blocks.specs.ListedLaws.{Listing}
use Rattle.data_blocks.proofs.listed.listed.Given as goal

abbrev pub invariant-loop-at : goal.invariant-loop-at
invariant-loop-at l =
    Listing l.image l.fragments l.f l.words l.first l.n l.a l.at l.k l.initial.out l.out

abbrev pub decreases-loop-at : goal.decreases-loop-at
decreases-loop-at l = l.n - l.at
