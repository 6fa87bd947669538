-- What is left of the blocks, put, gives what all give.
use native.Mathlib.Omega.{arith}
use Rattle.thin_blocks.specs.AnewLaws.{moving_begin, moving_end, moving_turn, moving_lost}
use Rattle.thin_blocks.proofs.anew.put_moved.Goals as goal

pub loop-i-init : goal.loop-i-init
loop-i-init c = moving_begin _ _ _ _

pub returns-then-left-n : goal.returns-then-left-n
returns-then-left-n c = moving_lost c.loop-i.invariant
    c.loop-i-test.true
    c.link_at-x.ensures c.kind_of.ensures
    c.put_anew-n.ensures (omega arith)

pub loop-i-preserved : goal.loop-i-preserved
loop-i-preserved c = moving_turn c.loop-i.invariant
    c.loop-i-test.true
    c.link_at-x.ensures c.kind_of.ensures
    c.put_anew-n.ensures (omega arith)

pub returns : goal.returns
returns c = moving_end c.loop-i.invariant c.loop-i-test.false
