-- None of those passed equals it.
use Rattle.planning.specs.ClocksLaws.{first_begin, first_end, first_hit, first_on}
use native.Mathlib.Omega.{arith}
use Rattle.planning.proofs.clocks.first_same.Goals as goal

pub loop-i-init : goal.loop-i-init
loop-i-init c = first_begin

pub returns-then-stands_same : goal.returns-then-stands_same
returns-then-stands_same c = first_hit c.loop-i.invariant (omega arith)
    c.entry_of-f.ensures c.stands_same.ensures c.if-stands_same.true

pub loop-i-preserved : goal.loop-i-preserved
loop-i-preserved c = first_on c.loop-i.invariant (omega arith)
    c.entry_of-f.ensures c.stands_same.ensures c.if-stands_same.false

pub returns : goal.returns
returns c = first_end c.loop-i.invariant (omega arith)
