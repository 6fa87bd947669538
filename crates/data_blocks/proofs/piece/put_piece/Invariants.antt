-- Each turn puts the records of one block: the header, where the first begins it, then their cells.
use Rattle.joined.specs.Spot.{SpotOf}
use Rattle.data_blocks.specs.RegionLaws.{Piecing}
use Rattle.data_blocks.proofs.piece.put_piece.Given as goal

abbrev pub invariant-loop-left : goal.invariant-loop-left
invariant-loop-left l =
    Piecing l.image l.fragments l.f l.t l.at l.offset l.left l.initial.out l.out × SpotOf l.image l.fragments l.k

abbrev pub decreases-loop-left : goal.decreases-loop-left
decreases-loop-left l = l.left
