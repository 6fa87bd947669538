-- The words so far are those of the first groups.
use Rattle.planning.specs.ClocksLaws.{stand_begin, stand_end, stand-on}
use native.Mathlib.Omega.{arith}
use Rattle.planning.proofs.clocks.all_stand.Goals as goal

pub loop-j-init : goal.loop-j-init
loop-j-init c = stand_begin

pub loop-j-preserved : goal.loop-j-preserved
loop-j-preserved c = stand-on c.loop-j.invariant (omega arith) (omega arith)
    (omega arith) c.stands_in-by.ensures
    c.put.ensures

pub returns : goal.returns
returns c = stand_end c.loop-j.invariant (omega arith)
