-- What is left of the links gives what all give.
use Rattle.ranges.specs.Ranged.{ranges_from}
use Rattle.mdf.specs.Block.{links_at}
use mathlib.Core.Path.{◌≡◌}
use Rattle.ranges.proofs.range.list_ranges.Given as goal

abbrev pub invariant-loop-i : goal.invariant-loop-i
invariant-loop-i l = ranges_from l.image l.a l.links l.i ≡ ranges_from l.image l.a (links_at l.image l.a) 1
