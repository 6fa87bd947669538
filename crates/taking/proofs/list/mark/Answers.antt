-- What stands behind number i of the list is marked.
use native.Mathlib.Omega.{arith}
use Rattle.taking.specs.MarksLaws.{mark_begin, mark-over, mark-again, mark-next, mark_end}
use Rattle.taking.proofs.list.mark.Goals as goal
use Rattle.taking.proofs.list.mark.Goals.{then-n-k-via-then-n-k, then-n-k-via-else-n-k+then-marks-k}

pub loop-i-init : goal.loop-i-init
loop-i-init c = mark_begin _ _ _ c.requires.1

pub returns-then-n-k : goal.returns-then-n-k
returns-then-n-k c = elim c.then-n-k.branch [
  | then-n-k-via-then-n-k w ↦ mark-over c.loop-i.invariant c.loop-i-test.true (omega (arith, w.if-n-k.true))
  | then-n-k-via-else-n-k+then-marks-k w ↦ mark-again c.loop-i.invariant c.loop-i-test.true (omega (arith, w.if-n-k.false)) w.if-marks-k.true
]

pub loop-i-preserved : goal.loop-i-preserved
loop-i-preserved c = mark-next c.loop-i.invariant c.loop-i-test.true (omega (arith, c.if-n-k.false)) c.if-marks-k.false c.requires.0

pub returns : goal.returns
returns c = mark_end c.loop-i.invariant c.loop-i-test.false
