-- No dot was passed.
use Rattle.identification.specs.IdentificationLaws.{Passed}
use Rattle.identification.proofs.at_dot.Given as goal

abbrev pub invariant-loop-i : goal.invariant-loop-i
invariant-loop-i l = Passed l.text l.i
