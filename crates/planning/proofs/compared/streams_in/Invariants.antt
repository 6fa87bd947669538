-- What is left of the entries gives what all of them give.
use Rattle.planning.specs.Table.{entries_at}
use Rattle.planning.specs.Compared.{stream_over}
use Rattle.planning.specs.ComparedLaws.{Checking}
use Rattle.planning.proofs.compared.streams_in.Given as goal

abbrev pub invariant-loop-j : goal.invariant-loop-j
invariant-loop-j l = Checking (stream_over l.image l.fragments (entries_at l.table 0 l.n)) l.table l.n l.j
