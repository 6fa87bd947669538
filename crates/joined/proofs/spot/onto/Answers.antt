-- Past the bytes between the two offsets, at a fragment with bytes.
use mathlib.Core.Path.{refl}
use Rattle.joined.specs.SpotLaws.{spot_on}
use native.Mathlib.Omega.{arith}
use Rattle.joined.proofs.spot.onto.Goals as goal

pub returns : goal.returns
returns c = λ s b t r l.
    (spot_on t r _ c.args.offset c.skip-c.result c.settle-cursor.result (omega arith) l (c.skip-c.ensures s b t.ranges) c.settle-cursor.ensures, refl)
