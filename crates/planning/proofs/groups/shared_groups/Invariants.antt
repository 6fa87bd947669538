-- What is left to count gives the whole.
use Rattle.planning.specs.StandsLaws.{Counting}
use Rattle.planning.proofs.groups.shared_groups.Given as goal

abbrev pub invariant-loop-by : goal.invariant-loop-by
invariant-loop-by l = Counting l.stands l.by-index l.shared
