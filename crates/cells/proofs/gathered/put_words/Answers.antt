-- Each turn puts the records of one fragment that follow each other, or one that lies in several.
use mathlib.Core.Path.{refl}
use Rattle.cells.specs.GatheredLaws.{running_begin, running_room, running_some, running_turn, running_end}
use native.Mathlib.Omega.{arith}
use Rattle.cells.proofs.gathered.put_words.Goals as goal

pub returns-then-size-h : goal.returns-then-size-h
returns-then-size-h c =
    let a = c.args in
    running_end (running_begin a.h a.words.now a.size a.from a.to a.n a.spot a.out.now) (λ z. omega (arith, c.if-size-h.true))

pub loop-count-init : goal.loop-count-init
loop-count-init c = let a = c.args in running_begin a.h a.words.now a.size a.from a.to a.n a.spot a.out.now

pub overflow_add-at : goal.overflow_add-at
overflow_add-at c = omega (arith, c.requires.1)

pub bounds-words-at : goal.bounds-words-at
bounds-words-at c = omega (arith, c.requires.1)

pub returns-then-end-o : goal.returns-then-end-o
returns-then-end-o c = running_end c.loop-count.invariant (λ z. omega arith)

pub put_some-m-requires : goal.put_some-m-requires
put_some-m-requires c = let p = c.requires in (p.0, omega arith, omega (arith, p.1), refl, running_room c.loop-count.invariant p.2)

pub overflow_mul-index : goal.overflow_mul-index
overflow_mul-index c = omega (arith, running_some c.loop-count.invariant c.put_some-m.result c.put_some-m.ensures.few c.requires.2, c.well_formed.0)

pub overflow_add-index : goal.overflow_add-index
overflow_add-index c = omega (arith, running_some c.loop-count.invariant c.put_some-m.result c.put_some-m.ensures.few c.requires.2, c.well_formed.0)

pub overflow_add-count : goal.overflow_add-count
overflow_add-count c = omega (arith, c.put_some-m.ensures.few, c.ranges.n)

pub loop-count-smaller : goal.loop-count-smaller
loop-count-smaller c = let e = c.put_some-m.ensures in omega (arith, e.some, e.few)

pub loop-count-preserved : goal.loop-count-preserved
loop-count-preserved c =
    running_turn c.loop-count.invariant c.put_some-m.result _ c.requires.1 (omega arith) (omega (arith, c.well_formed.1)) (c.reach-near.ensures c.args.image.now)
    c.put_some-m.ensures (omega (arith, c.put_some-m.auto.out)) refl refl

pub returns : goal.returns
returns c = running_end c.loop-count.invariant (λ z. omega arith)
