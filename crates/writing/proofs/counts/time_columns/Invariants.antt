-- The first numbers are summed.
use Rattle.std.proofs.Common.{◌-◌, arith, rules}
use Rattle.writing.specs.SumLaws.{Summing, sum-none, sum_more, sum-all}
use Rattle.writing.specs.Counted.{time_at}
use Rattle.writing.proofs.counts.time_columns.Given as goal

abbrev pub invariant-loop-k : goal.invariant-loop-k
invariant-loop-k l = Summing (time_at l.columns) 1 l.n l.k l.sum
