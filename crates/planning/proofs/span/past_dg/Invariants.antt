-- What is left of the items gives what all of them give.
use Rattle.planning.specs.SpanLaws.{Going}
use Rattle.planning.proofs.span.past_dg.Given as goal

abbrev pub invariant-loop-k : goal.invariant-loop-k
invariant-loop-k l = Going l.source l.m l.d l.k l.groups
