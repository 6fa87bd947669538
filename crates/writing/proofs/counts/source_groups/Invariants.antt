-- The first numbers are summed.
use Rattle.std.proofs.Common.{◌-◌, rules}
use Rattle.writing.specs.SumLaws.{Summing, sum-none, sum_more, sum-all}
use Rattle.writing.specs.Counted.{group_at}
use Rattle.writing.proofs.counts.source_groups.Given as goal

abbrev pub invariant-loop-i : goal.invariant-loop-i
invariant-loop-i l = Summing (group_at l.image l.source) 1 l.n l.i l.sum
