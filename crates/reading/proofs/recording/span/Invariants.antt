-- What was passed and what is left give the whole.
use Rattle.reading.specs.SpanLaws.{Spanning}
use Rattle.reading.proofs.recording.span.Given as goal

abbrev pub invariant-loop-next : goal.invariant-loop-next
invariant-loop-next l = Spanning l.source l.i l.n l.next l.groups
