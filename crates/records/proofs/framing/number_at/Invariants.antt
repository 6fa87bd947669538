-- The bytes from index i on were taken, the highest first.
use Rattle.records.specs.Answer.{ahead_of}
use Rattle.mdf.specs.Records.{joined}
use Rattle.base.specs.Field.{le_at}
use mathlib.Core.Path.{◌≡◌}
use Prim.Native.Nat.{◌-◌, ◌≤◌}
use Rattle.records.proofs.framing.number_at.Given as goal

abbrev pub invariant-loop-i : goal.invariant-loop-i
invariant-loop-i l =
    (l.i ≤ l.n) × (l.x ≤ 18446744073709551615) × (l.x ≡ le_at (l.n - l.i) (joined l.image (ahead_of l.image l.fragments l.from)) l.i)

abbrev pub decreases-loop-i : goal.decreases-loop-i
decreases-loop-i l = l.i
