-- Each turn lays the records of a kept stretch; past the window it ends.
use lib.ListN.{length}
use mathlib.Core.Path.{◌≡◌}
use Prim.Native.Nat.{◌-◌, ◌≤◌}
use Rattle.window_data.specs.Kept.{PoolFilledIn}
use Rattle.window_data.proofs.kept.lay_pool.Given as goal

abbrev pub invariant-loop-at : goal.invariant-loop-at
invariant-loop-at l = (l.r ≤ l.at) × (l.at ≤ l.f.records) × (length l.w ≡ length l.initial.w) × PoolFilledIn l.a l.image l.d l.g l.fragments l.f l.pool l.r l.at l.initial.w l.w

abbrev pub decreases-loop-at : goal.decreases-loop-at
decreases-loop-at l = l.f.records - l.at
