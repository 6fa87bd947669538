-- Each turn passes equal cells.
use Rattle.comparing.specs.HeadLaws.{ready_tables}
use Rattle.comparing.specs.TimedLaws.{heads_begin, heads_end, heads_other, heads_few, heads_turn}
use borrow.Author.Rules.{rules}
use native.Mathlib.Omega.{arith}
use Rattle.comparing.proofs.times.records_same.Goals as goal

pub loop-at-init : goal.loop-at-init
loop-at-init c p =
    let m = c.make_tables.ensures in
    let n = c.make_tables-2.ensures in (
      ready_tables p.one.ready _ _ m.0 (search rules) m.1 (search rules),
      ready_tables p.two.ready _ _ n.0 (search rules) n.1 (search rules),
      rw (c.head_begin-x.ensures, c.head_begin-y.ensures) (heads_begin p),
    )

pub some_same-r-requires : goal.some_same-r-requires
some_same-r-requires c = c.requires

pub returns-then-not-r : goal.returns-then-not-r
returns-then-not-r c p =
    let o = c.requires in
    let v = c.loop-at.invariant p in
    heads_other p v.2 (omega (arith, c.loop-at-test.true)) v.0 v.1 c.head_at-p.ensures c.head_at-q.ensures o.0 o.1 o.2 o.3 c.some_same-r.ensures c.if-not-r.true

pub overflow_sub-a : goal.overflow_sub-a
overflow_sub-a c = omega (arith, c.loop-at-test.true)

pub returns-then-a-at : goal.returns-then-a-at
returns-then-a-at c p =
    let o = c.requires in
    let v = c.loop-at.invariant p in
    absurd (heads_few p v.2 (omega (arith, c.loop-at-test.true)) v.0 v.1 c.head_at-p.ensures c.head_at-q.ensures o.0 o.1 o.2 o.3 c.some_same-r.ensures (omega (arith, c.if-a-at.true)))

pub overflow_add-at : goal.overflow_add-at
overflow_add-at c = omega (arith, c.loop-at-test.true, c.if-a-at.false, c.struct_known-1.given)

pub loop-at-smaller : goal.loop-at-smaller
loop-at-smaller c = omega (arith, c.loop-at-test.true, c.some_same-r.ensures.some)

pub loop-at-preserved : goal.loop-at-preserved
loop-at-preserved c p =
    let o = c.requires in
    let v = c.loop-at.invariant p in (
      v.0,
      v.1,
      heads_turn p v.2 (omega (arith, c.loop-at-test.true)) v.0 v.1 c.head_at-p.ensures c.head_at-q.ensures o.0 o.1 o.2 o.3 c.some_same-r.ensures c.if-not-r.false
          c.head_past-x.ensures c.head_past-y.ensures,
    )

pub returns : goal.returns
returns c p = heads_end p (c.loop-at.invariant p).2 (omega (arith, c.loop-at-test.false))
