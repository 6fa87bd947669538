-- What is left of the check, with the run passed so far in front, gives what the whole gives.
use Rattle.records.specs.RunLaws.{Passing}
use Rattle.records.specs.Straddle.{kind_if}
use Prim.Native.Nat.{◌-◌, ◌≤◌, ◌<◌}
use lib.ListN.{length}
use Rattle.records.proofs.sorted.runs_whole.Given as goal

abbrev pub invariant-loop-i : goal.invariant-loop-i
invariant-loop-i l =
    (l.i ≤ length l.fragments) × (l.bytes < 8589934848) × Passing l.image l.d l.g l.fragments l.i (kind_if l.dv) l.bytes l.start

abbrev pub decreases-loop-i : goal.decreases-loop-i
decreases-loop-i l = length l.fragments - l.i
