-- As many as are kept before column k.
use native.Mathlib.Omega.{arith}
use Rattle.taking.specs.WordsLaws.{new_begin, new_out, new_kept, new_end}
use Rattle.taking.proofs.kept.new_number.Goals as goal
use Rattle.taking.proofs.kept.new_number.Goals.{then-not-marks-k, else-not-marks-k}

pub loop-k-init : goal.loop-k-init
loop-k-init c = (omega arith, omega arith, λ ns r. new_begin ns)

pub loop-k-preserved : goal.loop-k-preserved
loop-k-preserved c = elim c.if-not-marks-k.branch [
  | then-not-marks-k w ↦ rw w.count-is (omega arith, omega arith, λ ns r. new_kept ns _ r (c.loop-k.invariant.2 ns r) w.if-not-marks-k.true)
  | else-not-marks-k w ↦ rw w.count-is (omega arith, omega arith, λ ns r. new_out ns _ r (c.loop-k.invariant.2 ns r) w.if-not-marks-k.false)
]

pub returns : goal.returns
returns c = (omega arith, λ ns r. new_end ns c.loop-k.invariant.0 c.loop-k-test.false (c.loop-k.invariant.2 ns r))
