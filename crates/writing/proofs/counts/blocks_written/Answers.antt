-- The first numbers are summed.
use Rattle.std.proofs.Common.{◌-◌, arith, rules}
use Rattle.writing.specs.SumLaws.{Summing, sum-none, sum_more, sum-all}
use Rattle.writing.specs.Counted.{blocks_at}
use Rattle.writing.proofs.counts.blocks_written.Goals as goal

pub loop-k-init : goal.loop-k-init
loop-k-init c = sum-none

pub blocks_at-sum-requires : goal.blocks_at-sum-requires
blocks_at-sum-requires c = (omega arith, c.requires.1 _ (omega arith))

pub loop-k-preserved : goal.loop-k-preserved
loop-k-preserved c = sum_more c.loop-k.invariant (omega arith) c.blocks_at-sum.ensures.is
    c.blocks_at-sum.ensures.few

pub returns : goal.returns
returns c = sum-all c.loop-k.invariant (omega arith)
