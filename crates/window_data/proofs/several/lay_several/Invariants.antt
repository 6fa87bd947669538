-- Each turn lays the records of the next stretch, as far as they are asked for; past the window it ends.
use mathlib.Core.Path.{◌≡◌}
use Prim.Native.Nat.{◌-◌}
use Rattle.mdf.specs.Walk.{id_size}
use Rattle.records.specs.Table.{Tabled}
use Rattle.places.specs.Stretch.{Ready}
use Rattle.window_data.specs.FilledLaws.{Filling}
use Rattle.window_data.proofs.several.lay_several.Given as goal

abbrev pub invariant-loop-at : goal.invariant-loop-at
invariant-loop-at l =
    Filling l.a l.image l.d l.k l.groups l.fragments l.f l.r l.scan l.at l.initial.w l.w
    × ((Ready l.image l.d l.k l.groups l.fragments) → Tabled l.image l.groups l.ids l.sizes) × (l.n ≡ id_size l.image l.d)

abbrev pub decreases-loop-at : goal.decreases-loop-at
decreases-loop-at l = l.f.records - l.at
