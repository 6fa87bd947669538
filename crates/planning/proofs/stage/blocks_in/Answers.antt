-- What is left of the columns gives what all of them give.
use Rattle.planning.specs.StageLaws.{left_begin, blocks_end_lem, blocks_stop, blocks-next}
use native.Mathlib.Omega.{arith}
use Rattle.planning.proofs.stage.blocks_in.Goals as goal

pub loop-k-init : goal.loop-k-init
loop-k-init c = left_begin

pub returns-then-block_count-gt4294967295 : goal.returns-then-block_count-gt4294967295
returns-then-block_count-gt4294967295 c = blocks_stop _ _ c.loop-k.invariant
    (omega arith)
    c.word-c.ensures c.word-g.ensures
    c.word-records.ensures c.width_of-width.ensures.is c.block_count.ensures
    c.if-block_count-gt4294967295.true

pub loop-k-preserved : goal.loop-k-preserved
loop-k-preserved c = blocks-next _ _ c.loop-k.invariant
    (omega arith)
    c.word-c.ensures c.word-g.ensures
    c.word-records.ensures c.width_of-width.ensures.is c.block_count.ensures
    c.if-block_count-gt4294967295.false

pub returns : goal.returns
returns c = blocks_end_lem _ _ c.loop-k.invariant (omega arith)
