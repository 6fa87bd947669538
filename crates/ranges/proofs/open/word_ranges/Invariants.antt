-- What is left of the pass gives what the whole pass gives.
use Rattle.std.proofs.Common.{◌-◌, ◌≡◌}
use Rattle.ranges.specs.Open.{word_ranges}
use Rattle.ranges.proofs.open.word_ranges.Given as goal

abbrev pub invariant-loop-k : goal.invariant-loop-k
invariant-loop-k l = word_ranges l.image l.source (l.n - l.k) l.k ≡ word_ranges l.image l.source l.n 0
