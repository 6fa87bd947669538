-- What is left of the blocks gives what all give.
use Rattle.ranges.specs.Blocks.{listed_from, all_of}
use mathlib.Core.Path.{◌≡◌}
use Rattle.ranges.proofs.form.all_of.Given as goal

abbrev pub invariant-loop-i : goal.invariant-loop-i
invariant-loop-i l = all_of l.dv (listed_from l.image l.a l.links l.i) ≡ all_of l.dv (listed_from l.image l.a l.links 1)
