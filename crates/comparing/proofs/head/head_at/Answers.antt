-- Records that are there are kept; else the next ones are found.
use Rattle.comparing.specs.HeadLaws.{head-here, head-next}
use native.Mathlib.Omega.{arith}
use Rattle.comparing.proofs.head.head_at.Goals as goal

pub returns-then-h-ne0 : goal.returns-then-h-ne0
returns-then-h-ne0 c f y at l o = head-here y o (omega arith) (c.reach-spot.ensures _ (omega (arith, c.well_formed.0)))

pub returns : goal.returns
returns c f y at l o =
    let x = c.next_of-r.ensures f y o.scan in
    let t = o.to in
    head-here y (head-next o (omega arith) x) (x.some (omega arith)) (c.reach-spot-2.ensures _ (omega (arith, c.well_formed.0)))
