-- What is left of the columns gives what all give.
use Rattle.sheets.specs.LineLaws.{number_begin, number-here, number-on, number_end}
use Rattle.sheets.proofs.line.number_at.Goals as goal

pub loop-k-init : goal.loop-k-init
loop-k-init c = λ s. number_begin _ _ _ s

pub returns-then-source-k : goal.returns-then-source-k
returns-then-source-k c = λ s. number-here s _ _ _ _ (c.loop-k.invariant s) c.loop-k-test.true c.if-source-k.true

pub loop-k-preserved : goal.loop-k-preserved
loop-k-preserved c = λ s. number-on s _ _ _ _ (c.loop-k.invariant s) c.loop-k-test.true c.if-source-k.false

pub returns : goal.returns
returns c = λ s. number_end s _ _ _ _ (c.loop-k.invariant s) c.loop-k-test.false
