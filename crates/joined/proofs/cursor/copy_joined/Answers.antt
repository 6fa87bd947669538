-- Each turn passes on to the next fragment, or copies what is left of one. Where no fragment follows, there were fewer bytes.
use mathlib.Core.Path.{◌≡◌, refl}
use native.Mathlib.Nat.{min-le_left, min-le_right}
use Rattle.base.specs.Blit.{blit}
use Rattle.joined.specs.AheadLaws.{next-at, ranges_here, some_least, copying_next, copying_piece}
use borrow.Author.Rules.{rules}
use native.Mathlib.Omega.{arith}
use Rattle.joined.proofs.cursor.copy_joined.Goals as goal

pub returns-then-room-at : goal.returns-then-room-at
returns-then-room-at c = λ r e h. absurd (omega arith)

pub loop-left-init : goal.loop-left-init
loop-left-init c = (λ r e. record { ranges = r; enough = e; bytes = refl }, omega arith, refl)

pub returns-then-end-k : goal.returns-then-end-k
returns-then-end-k c = λ r e h. absurd (omega (arith, (copying_next (c.loop-left.invariant.0 r e) c.loop-left-test.true c.if-k-eq0.true).0))

pub loop-left-smaller-then-k-eq0 : goal.loop-left-smaller-then-k-eq0
loop-left-smaller-then-k-eq0 c = let e = next-at c.args.fragments.now c.loop-left.k c.next-k.ensures in omega arith

pub loop-left-preserved-then-k-eq0 : goal.loop-left-preserved-then-k-eq0
loop-left-preserved-then-k-eq0 c = (
  λ r e. rw c.next-k.ensures (copying_next (c.loop-left.invariant.0 r e) c.loop-left-test.true c.if-k-eq0.true).1,
  c.loop-left.invariant.1,
  c.loop-left.invariant.2,
)

pub overflow_add-to : goal.overflow_add-to
overflow_add-to c =
    let m = c.min-m.ensures in
    let a = min-le_left c.loop-left.left c.loop-left.k.left in
    omega arith

pub overflow_sub-left : goal.overflow_sub-left
overflow_sub-left c =
    let m = c.min-m.ensures in
    let a = min-le_left c.loop-left.left c.loop-left.k.left in
    omega arith

pub loop-left-smaller : goal.loop-left-smaller
loop-left-smaller c =
    let m = c.min-m.ensures in
    let a = min-le_left c.loop-left.left c.loop-left.k.left in
    let e = c.onward-k.ensures.0 in
    let p = some_least c.loop-left.left c.loop-left.k.left c.loop-left-test.true (omega arith) in
    omega arith

pub loop-left-preserved : goal.loop-left-preserved
loop-left-preserved c =
    let m = c.min-m.ensures in
    let a = min-le_left c.loop-left.left c.loop-left.k.left in
    let b = min-le_right c.loop-left.left c.loop-left.k.left in (
      λ r e.
          let t = c.loop-left.invariant.0 r e in
          let h = ranges_here _ _ _ t.ranges in
          rw (c.onward-k.ensures.1 (omega arith) (omega arith)) (copying_piece _ t (omega arith) (omega arith) c.copy.ensures),
      omega (arith, c.copy.auto.d),
      search rules,
    )

pub returns : goal.returns
unfolding blit
returns c = λ r e h. let z : c.loop-left.left ≡ 0 = omega arith in rw z at (c.loop-left.invariant.0 r e).bytes
