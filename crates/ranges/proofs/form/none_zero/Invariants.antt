-- What is left of the search gives what the whole search gives.
use Rattle.ranges.specs.Blocks.{none_from}
use mathlib.Core.Path.{◌≡◌}
use Rattle.ranges.proofs.form.none_zero.Given as goal

abbrev pub invariant-loop-i : goal.invariant-loop-i
invariant-loop-i l = none_from l.image l.a l.links l.i ≡ none_from l.image l.a l.links 1
