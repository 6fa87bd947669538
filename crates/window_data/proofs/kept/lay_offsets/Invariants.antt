-- Each turn lays one record; past the window it ends.
use lib.ListN.{length}
use mathlib.Core.Path.{◌≡◌}
use Prim.Native.Nat.{◌≤◌}
use Rattle.window_data.specs.Kept.{ListFilledIn}
use Rattle.window_data.proofs.kept.lay_offsets.Given as goal

abbrev pub invariant-loop-at : goal.invariant-loop-at
invariant-loop-at l =
    (l.r ≤ l.at) × (l.at ≤ l.f.records) × (length l.w ≡ length l.initial.w) × ListFilledIn l.a l.image l.fragments l.f l.words l.first l.count l.r l.at l.initial.w l.w
