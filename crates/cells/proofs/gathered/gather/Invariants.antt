-- Each turn puts the cell of the record that the next word tells, as long as it lies whole past the position.
use mathlib.Core.Path.{◌≡◌}
use Rattle.cells.specs.GatheredLaws.{Gathering}
use Rattle.cells.proofs.gathered.gather.Given as goal

abbrev pub invariant-loop-i : goal.invariant-loop-i
invariant-loop-i l =
    Gathering l.image l.h l.words l.v l.to l.i l.index l.initial.out l.out × (l.width ≡ l.h.width)
