-- What is left of the items gives what all of them give.
use Rattle.planning.specs.SpanLaws.{Counting}
use Rattle.planning.proofs.span.own_groups.Given as goal

abbrev pub invariant-loop-k : goal.invariant-loop-k
invariant-loop-k l = Counting l.source l.m l.i l.k l.groups
