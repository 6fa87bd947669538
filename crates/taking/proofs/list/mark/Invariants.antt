-- What stands behind number i of the list is marked.
use Rattle.taking.specs.MarksLaws.{Marking}
use Rattle.taking.proofs.list.mark.Given as goal

abbrev pub invariant-loop-i : goal.invariant-loop-i
invariant-loop-i l = Marking l.n l.numbers l.i l.marks
