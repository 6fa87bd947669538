-- The first numbers are summed.
use Rattle.std.proofs.Common.{◌-◌, arith, rules}
use Rattle.writing.specs.SumLaws.{Summing, sum-none, sum_more, sum-all}
use Rattle.writing.specs.Counted.{group_at}
use Rattle.writing.proofs.counts.source_groups.Goals as goal

pub loop-i-init : goal.loop-i-init
loop-i-init c = sum-none

pub loop-i-preserved : goal.loop-i-preserved
loop-i-preserved c = sum_more c.loop-i.invariant (omega arith) c.group_at-sum.ensures.is
    c.group_at-sum.ensures.few

pub returns : goal.returns
returns c = sum-all c.loop-i.invariant (omega arith)
