-- What is left of the search gives what the whole search gives.
use Rattle.std.proofs.Common.{arith}
use Rattle.ranges.specs.SeekLaws.{seek_begin, seek_here, seek_on, seek_end}
use Rattle.ranges.proofs.seek.seek.Goals as goal

pub loop-i-init : goal.loop-i-init
loop-i-init c = seek_begin _ _ _ _ _ (omega arith)

pub overflow_mul-result : goal.overflow_mul-result
overflow_mul-result c = omega (arith, c.take_off.ensures.yes c.in_default.is, c.bytes_at-z.type_inv)

pub overflow_add-result : goal.overflow_add-result
overflow_add-result c = omega (arith, c.take_off.ensures.yes c.in_default.is, c.bytes_at-z.type_inv)

pub returns-in_default : goal.returns-in_default
returns-in_default c = seek_here c.loop-i.invariant c.loop-i-test.true c.link_at.ensures c.bytes_at-z.ensures c.take_off.ensures c.in_default.is

pub loop-i-preserved : goal.loop-i-preserved
loop-i-preserved c = seek_on c.loop-i.invariant c.loop-i-test.true c.link_at.ensures c.bytes_at-z.ensures c.take_off.ensures c.in-Some.is

pub returns : goal.returns
returns c = seek_end c.loop-i.invariant c.loop-i-test.false
