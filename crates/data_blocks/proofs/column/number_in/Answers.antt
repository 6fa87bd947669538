-- Each turn passes a group at another address.
use native.Mathlib.Omega.{arith}
use Rattle.data_blocks.specs.NumberLaws.{number_begin, number_end, number-found, number-on}
use Rattle.data_blocks.proofs.column.number_in.Goals as goal

pub loop-i-init : goal.loop-i-init
loop-i-init c = number_begin

pub returns-then-groups-i : goal.returns-then-groups-i
returns-then-groups-i c = number-found c.loop-i.invariant (omega arith) c.if-groups-i.true

pub loop-i-preserved : goal.loop-i-preserved
loop-i-preserved c = number-on c.loop-i.invariant (omega arith) c.if-groups-i.false

pub returns : goal.returns
returns c = number_end c.loop-i.invariant (omega arith)
