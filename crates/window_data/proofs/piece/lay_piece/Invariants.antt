use Rattle.window_data.specs.RegionLaws.{Piecing}
use Rattle.window_data.proofs.piece.lay_piece.Given as goal

abbrev pub invariant-loop-f : goal.invariant-loop-f
invariant-loop-f l = Piecing l.image l.fragments l.f l.a l.t l.at l.offset l.left l.initial.w l.w

abbrev pub decreases-loop-f : goal.decreases-loop-f
decreases-loop-f l = l.left
