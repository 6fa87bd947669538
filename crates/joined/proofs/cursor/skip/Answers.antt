-- Each turn passes over the rest of a fragment; the last part lies in one. Where no fragment follows, there were fewer bytes.
use mathlib.Core.Path.{refl}
use Rattle.joined.specs.AheadLaws.{more-words, next-at, ranges_here, skipping_next, skipping_end}
use native.Mathlib.Omega.{arith}
use Rattle.joined.proofs.cursor.skip.Goals as goal

pub loop-k-init : goal.loop-k-init
loop-k-init c = λ s b r e. record { ranges = r; enough = e; rest = refl }

pub returns-then-end-k : goal.returns-then-end-k
returns-then-end-k c = λ s b r e. absurd (omega (arith, more-words _ _ _ (c.loop-k.invariant s b r e).enough c.loop-k-test.true))

pub loop-k-smaller : goal.loop-k-smaller
loop-k-smaller c = let e = next-at c.args.fragments.now c.loop-k.k c.next-k.ensures in omega arith

pub loop-k-preserved : goal.loop-k-preserved
loop-k-preserved c = λ s b r e. rw c.next-k.ensures (skipping_next (c.loop-k.invariant s b r e) c.loop-k-test.true)

pub returns : goal.returns
returns c = λ s b r e.
    let t = c.loop-k.invariant s b r e in
    let h = ranges_here _ _ _ t.ranges in
    rw (c.onward.ensures.1 (omega arith) (omega arith)) (skipping_end t (omega arith))
