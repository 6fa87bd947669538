-- The first numbers are summed.
use Rattle.std.proofs.Common.{◌-◌, arith, rules}
use Rattle.writing.specs.SumLaws.{Summing, sum-none, sum_more, sum-all}
use Rattle.writing.specs.Counted.{blocks_at}
use Rattle.writing.proofs.counts.blocks_written.Given as goal

abbrev pub invariant-loop-k : goal.invariant-loop-k
invariant-loop-k l = Summing (blocks_at l.image l.size l.columns) 4294967296 l.n l.k l.sum
