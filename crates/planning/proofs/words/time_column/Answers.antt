-- What is left of the search gives what the whole search gives.
use Rattle.planning.specs.WordLaws.{search_begin, search_end, search_hit, search_on}
use native.Mathlib.Omega.{arith}
use Rattle.planning.proofs.words.time_column.Goals as goal

pub loop-k-init : goal.loop-k-init
loop-k-init c = search_begin

pub returns-then-is_time : goal.returns-then-is_time
returns-then-is_time c = search_hit c.loop-k.invariant (omega arith) c.is_time.ensures
    c.if-is_time.true

pub loop-k-preserved : goal.loop-k-preserved
loop-k-preserved c = search_on c.loop-k.invariant (omega arith)
    c.is_time.ensures c.if-is_time.false

pub returns : goal.returns
returns c = search_end c.loop-k.invariant (omega arith)
