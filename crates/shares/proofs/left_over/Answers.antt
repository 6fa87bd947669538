use Rattle.shares.specs.EightsLaws.{lowering_begin, lowering_enough, lowering_turn, lowering_end}
use Rattle.std.proofs.Common.{arith}
use Rattle.shares.proofs.left_over.Goals as goal

pub loop-i-init : goal.loop-i-init
loop-i-init c = lowering_begin _ _ _ _ _ c.requires.enough

pub overflow_sub-rest : goal.overflow_sub-rest
overflow_sub-rest c = lowering_enough _ _ _ _ _ _ _ c.loop-i.invariant _ c.loop-i-test.true c.least-rest.ensures

pub loop-i-preserved : goal.loop-i-preserved
loop-i-preserved c = lowering_turn _ _ _ _ _ _ _ c.loop-i.invariant _ c.loop-i-test.true c.least-rest.ensures

pub returns : goal.returns
returns c = lowering_end _ _ _ _ _ _ _ c.loop-i.invariant (omega arith)
