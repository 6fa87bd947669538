-- The words so far are zero and the others as they were.
use native.Mathlib.Omega.{arith}
use Rattle.reading.specs.ClearLaws.{filled_more, filled_zero, filled-all}
use Rattle.reading.proofs.recording.clear_from.Goals.{then-words-i-ne0, else-words-i-ne0}
use Rattle.reading.proofs.recording.clear_from.Goals as goal

pub loop-i-init : goal.loop-i-init
loop-i-init c = λ w f. f

pub loop-i-preserved : goal.loop-i-preserved
loop-i-preserved c = λ w f. elim c.if-words-i-ne0.branch [
  | then-words-i-ne0 t ↦ rw t.words-is (filled_more (c.loop-i.invariant w f) (omega arith))
  | else-words-i-ne0 t ↦ rw t.words-is (filled_zero (c.loop-i.invariant w f) (omega arith) t.if-words-i-ne0.false)
]

pub returns : goal.returns
returns c = λ w f. filled-all (c.loop-i.invariant w f) (omega arith)
