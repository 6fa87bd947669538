-- The DG from block i on, counted after those before, give what all give.
use Prim.Native.Nat.{◌-◌}
use Rattle.reading.specs.CountingLaws.{Counting}
use Rattle.reading.proofs.recording.count_all.Given as goal

abbrev pub invariant-loop-i : goal.invariant-loop-i
invariant-loop-i l = Counting l.image l.source l.fragments l.n l.nf l.initial.counts l.i l.g l.counts

abbrev pub decreases-loop-i : goal.decreases-loop-i
decreases-loop-i l = l.n - l.i
