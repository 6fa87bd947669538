-- What is left of the blocks but the last gives what all give.
use Rattle.std.proofs.Common.{arith}
use Rattle.ranges.specs.BlocksLaws.{length_hit, length_pass, length_end}
use Rattle.ranges.proofs.form.have_length.Goals as goal

pub returns-then-bytes_at-n : goal.returns-then-bytes_at-n
returns-then-bytes_at-n c = length_hit _ _ _ _ _ c.loop-i.invariant (omega arith) c.link_at.ensures c.bytes_at.ensures c.if-bytes_at-n.true

pub loop-i-preserved : goal.loop-i-preserved
loop-i-preserved c = length_pass _ _ _ _ _ c.loop-i.invariant (omega arith) c.link_at.ensures c.bytes_at.ensures c.if-bytes_at-n.false

pub returns : goal.returns
returns c = length_end _ _ _ _ _ c.loop-i.invariant (omega arith)
