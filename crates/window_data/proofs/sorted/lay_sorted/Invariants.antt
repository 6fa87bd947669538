use Prim.Native.Nat.{◌-◌}
use mathlib.Core.List.{[], ◌∷◌}
use Rattle.window_data.specs.FilledLaws.{Filling}
use Rattle.window_data.proofs.sorted.lay_sorted.Given as goal

abbrev pub invariant-loop-at : goal.invariant-loop-at
invariant-loop-at l = Filling l.a l.image l.d 0 (l.g ∷ []) l.fragments l.f l.r l.scan l.at l.initial.w l.w

abbrev pub decreases-loop-at : goal.decreases-loop-at
decreases-loop-at l = l.f.records - l.at
