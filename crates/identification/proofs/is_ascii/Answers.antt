-- What is left of the text has a byte over 127 where the whole has.
use Rattle.std.proofs.Common.{arith, refl}
use Rattle.identification.specs.IdentificationLaws.{ascii-on, ascii-over, ascii_end}
use Rattle.identification.proofs.is_ascii.Goals as goal

pub loop-b-init : goal.loop-b-init
loop-b-init c = refl

pub returns-then-b-gt127 : goal.returns-then-b-gt127
returns-then-b-gt127 c = ascii-over c.args.text.now c.loop-b.b-index c.loop-b.invariant (omega arith) (omega arith)

pub loop-b-preserved : goal.loop-b-preserved
loop-b-preserved c = ascii-on c.args.text.now c.loop-b.b-index c.loop-b.invariant (omega arith) (omega arith)

pub returns : goal.returns
returns c = ascii_end c.args.text.now c.loop-b.b-index c.loop-b.invariant (omega arith)
