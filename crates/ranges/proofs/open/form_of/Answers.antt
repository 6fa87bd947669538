-- What is left of the blocks, behind the columns before, gives what all give.
use Rattle.std.proofs.Common.{arith}
use Rattle.ranges.specs.OpenLaws.{form_begin, form_short, form_no, form_on, form_end}
use Rattle.ranges.proofs.open.form_of.Goals as goal

pub loop-j-init : goal.loop-j-init
loop-j-init c = form_begin _ _ _

pub returns-then-not-column_formed : goal.returns-then-not-column_formed
returns-then-not-column_formed c = (form_no c.loop-j.invariant (omega arith) c.column_formed.ensures c.if-not-column_formed.true, tt)

pub loop-j-preserved : goal.loop-j-preserved
loop-j-preserved c = form_on c.loop-j.invariant (omega arith) c.column_formed.ensures c.if-not-column_formed.false

pub returns-then-n-ne0 : goal.returns-then-n-ne0
returns-then-n-ne0 c = (form_short c.loop-j.invariant (omega arith) (omega arith) c.if-n-ne0.true, tt)

pub returns : goal.returns
returns c = (form_end c.loop-j.invariant (omega arith) (omega arith) c.if-n-ne0.false, omega arith)
