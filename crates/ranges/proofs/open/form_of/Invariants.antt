-- What is left of the blocks, behind the columns before, gives what all give.
use Rattle.ranges.specs.OpenLaws.{Forming}
use Rattle.ranges.proofs.open.form_of.Given as goal

abbrev pub invariant-loop-j : goal.invariant-loop-j
invariant-loop-j l = Forming l.image l.source l.n l.j
