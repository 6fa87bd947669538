-- What is left of the blocks but the last gives what all give.
use Rattle.std.proofs.Common.{◌≡◌}
use Rattle.file.specs.Form.{have_length}
use Rattle.ranges.specs.Blocks.{listed_from}
use Rattle.ranges.proofs.form.have_length.Given as goal

abbrev pub invariant-loop-i : goal.invariant-loop-i
invariant-loop-i l = have_length l.n (listed_from l.image l.a l.links l.i) ≡ have_length l.n (listed_from l.image l.a l.links 1)
