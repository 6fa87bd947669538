-- The sum so far and the fragments left give the whole.
use Rattle.planning.specs.SizesLaws.{sum_begin, sum_end, sum_past, sum_over, sum-next}
use native.Mathlib.Omega.{arith}
use Rattle.planning.proofs.sizes.sizes_from.Goals as goal

pub loop-left-init : goal.loop-left-init
loop-left-init c = sum_begin _ _ _

pub returns-then-all-k : goal.returns-then-all-k
returns-then-all-k c = sum_past c.loop-left.invariant (omega arith)

pub returns-then-sum-more : goal.returns-then-sum-more
returns-then-sum-more c = sum_over c.loop-left.invariant (omega arith) c.word-more.ensures c.if-sum-more.true

pub loop-left-preserved : goal.loop-left-preserved
loop-left-preserved c = sum-next c.loop-left.invariant (omega arith) c.word-more.ensures c.if-sum-more.false

pub returns : goal.returns
returns c = sum_end c.loop-left.invariant (omega arith)
