-- Each turn puts the records of a kept stretch.
use mathlib.Core.Path.{◌≡◌}
use Prim.Native.Nat.{◌-◌, ◌≤◌}
use Rattle.joined.specs.Spot.{SpotOf}
use Rattle.data_blocks.specs.Filled.{PoolFilled}
use lib.ListN.{length}
use Rattle.data_blocks.proofs.by.by_pool.Given as goal

abbrev pub invariant-loop-at : goal.invariant-loop-at
invariant-loop-at l =
    (l.at ≤ l.f.records) × (length l.out ≡ length l.initial.out) × SpotOf l.image l.fragments l.spot × PoolFilled l.image l.d l.g l.fragments l.f l.pool l.at l.initial.out l.out

abbrev pub decreases-loop-at : goal.decreases-loop-at
decreases-loop-at l = l.f.records - l.at
