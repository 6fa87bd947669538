-- What is left of the blocks gives what all give.
use Rattle.ranges.specs.BlocksLaws.{kinds_hit, kinds_pass, kinds_end}
use mathlib.Core.Path.{refl}
use Rattle.ranges.proofs.form.all_of.Goals as goal

pub loop-i-init : goal.loop-i-init
loop-i-init c = refl

pub returns-then-is_other : goal.returns-then-is_other
returns-then-is_other c = kinds_hit c.args.dv c.args.image.now c.args.a c.args.links _ c.loop-i.invariant c.loop-i-test.true c.link_at.ensures c.is_other.ensures c.if-is_other.true

pub loop-i-preserved : goal.loop-i-preserved
loop-i-preserved c = kinds_pass c.args.dv c.args.image.now c.args.a c.args.links _ c.loop-i.invariant c.loop-i-test.true c.link_at.ensures c.is_other.ensures c.if-is_other.false

pub returns : goal.returns
returns c = kinds_end c.args.dv c.args.image.now c.args.a c.args.links _ c.loop-i.invariant c.loop-i-test.false
