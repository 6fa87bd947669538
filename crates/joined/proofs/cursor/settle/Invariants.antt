-- Each turn passes over a fragment without bytes; where no fragment follows, none had bytes.
use Prim.Native.Nat.{◌-◌, ◌<◌}
use lib.ListN.{length}
use Rattle.mdf.specs.Records.{size_of}
use Rattle.joined.specs.Ahead.{ahead, settled}
use Rattle.joined.specs.AheadLaws.{Settling}
use Rattle.joined.proofs.cursor.settle.Given as goal

abbrev pub invariant-loop-k : goal.invariant-loop-k
invariant-loop-k l = 0 < size_of (ahead l.fragments l.initial.k) → Settling l.fragments l.k (settled (ahead l.fragments l.initial.k))

abbrev pub decreases-loop-k : goal.decreases-loop-k
decreases-loop-k l = length l.fragments - l.k.at
