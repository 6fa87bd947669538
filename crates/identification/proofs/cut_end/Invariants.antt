-- Cutting what is left of the text gives what cutting the whole gives.
use Rattle.std.specs.Prelude.{◌≡◌, length}
use Rattle.identification.specs.Cut.{trim_end}
use Rattle.identification.proofs.cut_end.Given as goal

abbrev pub invariant-loop-last : goal.invariant-loop-last
invariant-loop-last g l = trim_end g.C.Cut.test l.left ≡ trim_end g.C.Cut.test l.text

abbrev pub decreases-loop-last : goal.decreases-loop-last
decreases-loop-last g l = length l.left
