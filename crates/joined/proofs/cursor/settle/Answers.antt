-- Each turn passes over a fragment without bytes; where no fragment follows, none had bytes.
use Prim.Native.Nat.{◌<◌}
use mathlib.Core.Path.{refl}
use Rattle.joined.specs.AheadLaws.{next-at, settling_next, settling_end}
use native.Mathlib.Omega.{arith}
use Rattle.joined.proofs.cursor.settle.Goals as goal

pub loop-k-init : goal.loop-k-init
loop-k-init c = λ h. record { some = h; rest = refl }

pub returns-then-end-k : goal.returns-then-end-k
returns-then-end-k c = λ h. absurd (omega (arith, (settling_next (c.loop-k.invariant h) c.loop-k-test.true).0))

pub loop-k-smaller : goal.loop-k-smaller
loop-k-smaller c = let e = next-at c.args.fragments.now c.loop-k.k c.next-k.ensures in omega arith

pub loop-k-preserved : goal.loop-k-preserved
loop-k-preserved c = λ h. rw c.next-k.ensures (settling_next (c.loop-k.invariant h) c.loop-k-test.true).1

pub returns : goal.returns
returns c = λ h. let l : 0 < c.loop-k.k.left = omega arith in record { is = settling_end (c.loop-k.invariant h) l; some = l }
