-- Each turn passes two equal cells.
use Rattle.result.specs.Sharing.{same}
use Rattle.comparing.specs.Run.{cells_in}
use Rattle.comparing.specs.RunLaws.{Stepping}
use Rattle.comparing.proofs.run.strided_same.Given as goal

abbrev pub invariant-loop-h : goal.invariant-loop-h
invariant-loop-h l =
    Stepping l.image l.stride l.h l.step l.i l.a l.b l.left (same (cells_in l.image l.h l.image l.initial.a l.stride l.n) (cells_in l.image l.i l.image l.initial.b l.step l.n))

abbrev pub decreases-loop-h : goal.decreases-loop-h
decreases-loop-h l = l.left
