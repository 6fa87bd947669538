-- From the place, or from the front.
use Rattle.joined.specs.SpotLaws.{spot_front}
use native.Mathlib.Omega.{arith}
use Rattle.joined.proofs.spot.reach.Goals as goal

pub onto-requires : goal.onto-requires
onto-requires c = rw c.begin.ensures (omega arith)

pub returns-then-offset-p : goal.returns-then-offset-p
returns-then-offset-p c = λ s b t r l. c.onto.ensures s b (rw c.begin.ensures (spot_front s _ r)) r l

pub returns : goal.returns
returns c = c.onto-2.ensures
