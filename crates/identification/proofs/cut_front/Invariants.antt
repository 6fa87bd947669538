-- Cutting what is left of the text gives what cutting the whole gives.
use Rattle.std.specs.Prelude.{◌≡◌, length}
use Rattle.mdf.specs.Identification.{drop_while}
use Rattle.identification.proofs.cut_front.Given as goal

abbrev pub invariant-loop-first : goal.invariant-loop-first
invariant-loop-first g l = drop_while g.C.Cut.test l.left ≡ drop_while g.C.Cut.test l.text

abbrev pub decreases-loop-first : goal.decreases-loop-first
decreases-loop-first g l = length l.left
