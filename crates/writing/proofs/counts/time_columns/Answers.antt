-- The first numbers are summed.
use Rattle.std.proofs.Common.{◌-◌, arith, rules}
use Rattle.writing.specs.SumLaws.{Summing, sum-none, sum_more, sum-all}
use Rattle.writing.specs.Counted.{time_at}
use Rattle.writing.proofs.counts.time_columns.Goals as goal

pub loop-k-init : goal.loop-k-init
loop-k-init c = sum-none

pub loop-k-preserved : goal.loop-k-preserved
loop-k-preserved c = sum_more c.loop-k.invariant (omega arith) c.time_at-sum.ensures.is
    c.time_at-sum.ensures.few

pub returns : goal.returns
returns c = let i = c.loop-k.invariant in record { is = sum-all i (omega arith); few = omega (arith, i.few, i.most) }
