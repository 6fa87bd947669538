-- What is left of the items gives what all of them give.
use Rattle.planning.specs.SpanLaws.{Seeking}
use Rattle.planning.proofs.span.first_group.Given as goal

abbrev pub invariant-loop-k : goal.invariant-loop-k
invariant-loop-k l = Seeking l.source l.m l.i l.k
