-- What is left of the search gives what the whole search gives.
use Rattle.planning.specs.TimeLaws.{master_begin, master_end, master_over, master_hit, master_on}
use native.Mathlib.Omega.{arith}
use Rattle.planning.proofs.masters.first_master.Goals as goal

pub loop-k-init : goal.loop-k-init
loop-k-init c = master_begin

pub returns-then-word-ne0 : goal.returns-then-word-ne0
returns-then-word-ne0 c = master_over c.loop-k.invariant (omega arith) c.word.ensures
    c.if-word-ne0.true

pub returns-then-is_master : goal.returns-then-is_master
returns-then-is_master c = master_hit c.loop-k.invariant
    (omega arith) c.word.ensures
    c.if-word-ne0.false c.word-c.ensures c.is_master.ensures c.if-is_master.true

pub loop-k-preserved : goal.loop-k-preserved
loop-k-preserved c = master_on c.loop-k.invariant
    (omega arith) c.word.ensures
    c.if-word-ne0.false c.word-c.ensures c.is_master.ensures c.if-is_master.false

pub returns : goal.returns
returns c = master_end c.loop-k.invariant (omega arith)
