-- What is left of the sum gives what the whole sum gives.
use Rattle.std.proofs.Common.{arith, ◌∙◌, ne_eqb}
use Rattle.ranges.specs.SeekLaws.{sum_begin, sum_over, sum-on, sum_end, sum-short}
use Rattle.ranges.proofs.seek.sums.Goals as goal

pub loop-i-init : goal.loop-i-init
loop-i-init c = sum_begin _ _ _ _ _ (omega arith)

pub returns-in_default : goal.returns-in_default
returns-in_default c = sum_over c.loop-i.invariant c.loop-i-test.true c.link_at.ensures c.bytes_at-z.ensures c.take_off.ensures c.in_default.is

pub loop-i-preserved : goal.loop-i-preserved
loop-i-preserved c = sum-on c.loop-i.invariant c.loop-i-test.true c.link_at.ensures c.bytes_at-z.ensures c.take_off.ensures c.in-Some.is

pub returns-then-left-eq0 : goal.returns-then-left-eq0
returns-then-left-eq0 c = sum_end c.loop-i.invariant c.loop-i-test.false c.if-left-eq0.true

pub returns-else-left-eq0 : goal.returns-else-left-eq0
returns-else-left-eq0 c = ne_eqb _ _ c.if-left-eq0.false ∙ sum-short c.loop-i.invariant c.loop-i-test.false c.if-left-eq0.false
