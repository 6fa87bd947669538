-- Each turn puts the records of the next stretch.
use mathlib.Core.List.{[], ◌∷◌}
use Prim.Native.Nat.{◌-◌}
use Rattle.data_blocks.specs.FilledLaws.{Filling}
use Rattle.data_blocks.proofs.by.by_sorted.Given as goal

abbrev pub invariant-loop-at : goal.invariant-loop-at
invariant-loop-at l =
    Filling l.image l.d 0 (l.g ∷ []) l.fragments l.f 0 l.scan l.at l.spot l.initial.out l.out

abbrev pub decreases-loop-at : goal.decreases-loop-at
decreases-loop-at l = l.f.records - l.at
