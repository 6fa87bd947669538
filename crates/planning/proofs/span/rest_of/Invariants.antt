-- What is left of the items gives what all of them give.
use Rattle.planning.specs.SpanLaws.{Counting, Ending}
use Rattle.planning.proofs.span.rest_of.Given as goal

abbrev pub invariant-loop-k : goal.invariant-loop-k
invariant-loop-k l = Counting l.source l.m l.i l.k l.groups × Ending l.source l.m l.i l.all l.k
