-- What is left of the bytes gives the whole buffer.
use Rattle.ranges.specs.CopyLaws.{Copying}
use Rattle.base.specs.Blit.{blit, part}
use Rattle.mdf.specs.Records.{joined}
use Rattle.ranges.specs.Blocks.{listed_from}
use lib.ListN.{length}
use Rattle.ranges.proofs.seek.copy_from.Given as goal

abbrev pub invariant-loop-i : goal.invariant-loop-i
invariant-loop-i l = Copying l.image l.a l.links l.i l.p l.done l.all l.buffer (blit 0 (part l.fn.spot.place (length l.initial.buffer) (joined l.image (listed_from l.image l.a l.links l.fn.spot.link))) l.initial.buffer)
