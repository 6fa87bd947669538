-- What is left of the columns gives what all of them give.
use Rattle.planning.specs.DataWordsLaws.{any_begin, any_end, any_hit, any_on}
use native.Mathlib.Omega.{arith}
use Rattle.planning.proofs.stage.any_nonempty.Goals as goal

pub loop-k-init : goal.loop-k-init
loop-k-init c = any_begin

pub returns-then-is_nonempty : goal.returns-then-is_nonempty
returns-then-is_nonempty c = any_hit c.loop-k.invariant (omega arith)
    c.is_nonempty.ensures c.if-is_nonempty.true

pub loop-k-preserved : goal.loop-k-preserved
loop-k-preserved c = any_on c.loop-k.invariant (omega arith)
    c.is_nonempty.ensures c.if-is_nonempty.false

pub returns : goal.returns
returns c = any_end c.loop-k.invariant (omega arith)
