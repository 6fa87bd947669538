-- The digits left, after the value of those passed, give what all of them give.
use Rattle.std.proofs.Common.{arith}
use Rattle.identification.specs.IdentificationLaws.{digits-none, digits_begin, digits_end, digits_under, digits_above, digits-on, digits_large}
use Rattle.identification.proofs.digits.Goals as goal

pub returns-then-is_empty : goal.returns-then-is_empty
returns-then-is_empty c = digits-none _ (grind arith)

pub loop-b-init : goal.loop-b-init
loop-b-init c = (omega arith, digits_begin _ (grind arith))

pub returns-then-b-lt48 : goal.returns-then-b-lt48
returns-then-b-lt48 c = digits_under c.args.text.now c.loop-b.b-index c.loop-b.n c.loop-b.invariant.1 (omega arith) (omega arith)

pub returns-then-b-gt57 : goal.returns-then-b-gt57
returns-then-b-gt57 c = digits_above c.args.text.now c.loop-b.b-index c.loop-b.n c.loop-b.invariant.1 (omega arith) (omega arith)

pub returns-then-n-gt65535 : goal.returns-then-n-gt65535
returns-then-n-gt65535 c = digits_large c.args.text.now c.loop-b.b-index c.loop-b.n c.loop-b.invariant.1 (omega arith) (omega arith) (omega arith) (omega arith)

pub loop-b-preserved : goal.loop-b-preserved
loop-b-preserved c = (omega arith, digits-on c.args.text.now c.loop-b.b-index c.loop-b.n c.loop-b.invariant.1 (omega arith) (omega arith) (omega arith))

pub returns : goal.returns
returns c = digits_end c.args.text.now c.loop-b.b-index c.loop-b.n c.loop-b.invariant.1 (omega arith) (omega arith)
