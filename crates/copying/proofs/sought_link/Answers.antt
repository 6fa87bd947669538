-- What is left of the history chain gives what all of it gives.
use Rattle.copying.specs.CopyingLaws.{chain_begin, history_last, history-next, history_miss, history_end}
use native.Mathlib.Omega.{arith}
use Rattle.copying.proofs.sought_link.Goals as goal

pub loop-i-init : goal.loop-i-init
loop-i-init c = chain_begin _ _ _ _ _ _ c.chain_end-end.ensures

pub returns-then-end-i-eq1 : goal.returns-then-end-i-eq1
returns-then-end-i-eq1 c = λ t. history_last c.loop-i.invariant (omega arith) (omega
    arith) (omega arith)

pub returns-then-memo-i : goal.returns-then-memo-i
returns-then-memo-i c = λ t. history-next c.loop-i.invariant (omega arith) (omega arith)
    (c.link_by.ensures t)

pub loop-i-preserved : goal.loop-i-preserved
loop-i-preserved c = history_miss c.loop-i.invariant (omega arith) (λ e. omega arith)

pub returns : goal.returns
returns c = λ t. history_end c.loop-i.invariant (omega arith) (c.own_link.ensures t)
