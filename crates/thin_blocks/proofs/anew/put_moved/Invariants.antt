-- What is left of the blocks, put, gives what all give.
use Rattle.thin_blocks.specs.AnewLaws.{Moving}
use Rattle.thin_blocks.proofs.anew.put_moved.Given as goal

abbrev pub invariant-loop-i : goal.invariant-loop-i
invariant-loop-i l = Moving l.image l.a l.links l.initial.d l.i l.p l.d
