-- What is left of the items gives what all of them give.
use Rattle.planning.specs.SpanLaws.{Ending}
use Rattle.planning.proofs.span.end_of.Given as goal

abbrev pub invariant-loop-k : goal.invariant-loop-k
invariant-loop-k l = Ending l.source l.m l.i l.all l.k
