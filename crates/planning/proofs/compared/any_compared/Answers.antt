-- What is left of the entries gives what all of them give.
use Rattle.planning.specs.ComparedLaws.{any_begin, any_end, any_hit, any_on}
use native.Mathlib.Omega.{arith}
use Rattle.planning.proofs.compared.any_compared.Goals as goal

pub loop-j-init : goal.loop-j-init
loop-j-init c = any_begin

pub returns-then-is_compared_in : goal.returns-then-is_compared_in
returns-then-is_compared_in c = any_hit c.loop-j.invariant (omega arith)
    c.entry_of-e.ensures c.is_compared_in.ensures c.if-is_compared_in.true

pub loop-j-preserved : goal.loop-j-preserved
loop-j-preserved c = any_on c.loop-j.invariant (omega arith)
    c.entry_of-e.ensures c.is_compared_in.ensures c.if-is_compared_in.false

pub returns : goal.returns
returns c = any_end c.loop-j.invariant (omega arith)
