-- What was counted and what is left give what all of them give; two are enough.
use Rattle.planning.specs.ComparedLaws.{compared_none, key_begin, key_end, key_hit, key_on}
use native.Mathlib.Omega.{arith}
use Rattle.planning.proofs.compared.is_compared.Goals as goal

pub returns-then-e-eq0 : goal.returns-then-e-eq0
returns-then-e-eq0 c = compared_none _ _ _ c.if-e-eq0.true

pub loop-j-init : goal.loop-j-init
loop-j-init c = key_begin c.if-e-eq0.false

pub returns-then-many-gt1 : goal.returns-then-many-gt1
returns-then-many-gt1 c = key_hit c.loop-j.invariant (omega arith)
    c.entry_of-f.ensures c.with_key-many.ensures c.if-many-gt1.true

pub loop-j-preserved : goal.loop-j-preserved
loop-j-preserved c = key_on c.loop-j.invariant (omega arith)
    c.entry_of-f.ensures c.with_key-many.ensures c.if-many-gt1.false

pub returns : goal.returns
returns c = key_end c.loop-j.invariant (omega arith)
