use mathlib.Core.Path.{◌∙◌}
use Rattle.joined.specs.SpotLaws.{spot_front}
use Rattle.window_cells.specs.DataLaws.{lays_none, lays_some, left_there}
use native.Mathlib.Omega.{arith}
use Rattle.window_cells.proofs.data.lay_joined.Goals as goal

pub returns-then-v-eq0 : goal.returns-then-v-eq0
returns-then-v-eq0 c r m e = lays_none c.args.image.now c.args.fragments.now _ _ _ _ _ r e _ c.seen_in-v.ensures c.if-v-eq0.true

pub returns-in_default : goal.returns-in_default
returns-in_default c r m e = let v = c.seen_in-v.ensures in let f = rw c.in_default.is at c.checked_add.ensures in absurd (f (omega (arith, v.within)))

pub returns : goal.returns
returns c r m e =
    let a = c.args in
    let v = c.seen_in-v.ensures in
    let b = c.begin.ensures in
    let f = rw c.in-Some.is at c.checked_add.ensures in
    let k = c.reach-k.ensures a.image.now (omega arith) (rw b (spot_front _ _ r)) r (omega (arith, v.within, f.1)) in
    lays_some a.image.now a.fragments.now a.a a.at a.offset a.n a.w.now r e _ _ v k.0 (k.1 ∙ f.1)
    (c.copy_joined.ensures k.0.ranges (left_there a.image.now a.fragments.now a.a a.at a.offset a.n a.w.now r e _ _ v k.0 (k.1 ∙ f.1)) v.fits)
