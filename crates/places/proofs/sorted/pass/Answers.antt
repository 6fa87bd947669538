-- Each turn passes a fragment of the kind, and its bytes are added.
use Rattle.places.specs.RunLaws.{pass_end, pass_other, pass_on, pass_over}
use native.Mathlib.Omega.{arith}
use Rattle.places.proofs.sorted.pass.Goals as goal

pub returns-then-n-i-lt3 : goal.returns-then-n-i-lt3
returns-then-n-i-lt3 c = let e = c.loop-i.invariant.1 in pass_end c.loop-i.invariant.0 (omega arith)

pub returns-then-is_dv-dv : goal.returns-then-is_dv-dv
returns-then-is_dv-dv c = let e = c.loop-i.invariant.1 in pass_other c.args.dv c.loop-i.invariant.0 (omega arith) c.is_dv.ensures c.if-is_dv-dv.true

pub returns-then-bytes-size : goal.returns-then-bytes-size
returns-then-bytes-size c = let e = c.loop-i.invariant.1 in pass_over c.args.dv c.loop-i.invariant.0 (omega arith) c.is_dv.ensures c.if-is_dv-dv.false c.word_at-size.ensures (omega arith)

pub loop-i-preserved : goal.loop-i-preserved
loop-i-preserved c = let e = c.loop-i.invariant.1 in (pass_on c.args.dv c.loop-i.invariant.0 (omega arith) c.is_dv.ensures c.if-is_dv-dv.false c.word_at-size.ensures, e, omega arith)

pub returns : goal.returns
returns c = let e = c.loop-i.invariant.1 in pass_end c.loop-i.invariant.0 (omega arith)
