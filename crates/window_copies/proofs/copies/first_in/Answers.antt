-- What is passed over leaves the window as it is.
use native.Mathlib.Omega.{arith}
use Rattle.window_copies.specs.LayingLaws.{passed_none, passed_turn, passed_end}
use Rattle.window_copies.proofs.copies.first_in.Goals as goal

pub loop-i-init : goal.loop-i-init
loop-i-init c = passed_none _ _ _ _ _ _

pub returns-then-lies : goal.returns-then-lies
returns-then-lies c = c.loop-i.invariant

pub loop-i-preserved : goal.loop-i-preserved
loop-i-preserved c = passed_turn c.loop-i.invariant c.loop-i-test.true (c.lies.ensures c.if-lies.false)

pub returns : goal.returns
returns c = passed_end c.loop-i.invariant (omega arith)
