-- Each turn passes equal cells.
use Prim.Native.Nat.{◌-◌}
use Rattle.comparing.specs.Head.{TablesOf}
use Rattle.comparing.specs.Timed.{Pair}
use Rattle.comparing.specs.TimedLaws.{Heads}
use Rattle.comparing.proofs.times.records_same.Given as goal

abbrev pub invariant-loop-at : goal.invariant-loop-at
invariant-loop-at l =
    Pair l.image l.a l.h l.groups l.fragments l.b l.i l.others l.pieces
    → TablesOf l.image l.groups l.ids l.sizes × TablesOf l.image l.others l.names l.lengths × Heads l.image l.a l.h l.groups l.fragments l.b l.i l.others l.pieces l.at l.x l.y

abbrev pub decreases-loop-at : goal.decreases-loop-at
decreases-loop-at l = l.a.records - l.at
