-- A run of records in one fragment, or one that lies in several.
use Prim.Native.Nat.{◌*◌, ◌≤◌}
use native.Mathlib.Nat.{mul-le-mul_right}
use native.Mathlib.Omega.{arith}
use Rattle.cells.specs.StridedLaws.{mul_less}
use Rattle.cells.specs.SpotLaws.{run_counted, some_one, some-run}
use Rattle.cells.proofs.run.put_some.Goals as goal

pub overflow_sub-k : goal.overflow_sub-k
overflow_sub-k c = omega (arith, (c.lies_here.ensures.0 c.if-lies_here.true).0)

pub put_strided-requires : goal.put_strided-requires
put_strided-requires c =
    let p = c.requires in
    let a = c.args in
    let r = run_counted _ _ _ c.requires.1 c.run_of-m.ensures in
    let q = c.lies_here.ensures.0 c.if-lies_here.true in
    let m : c.run_of-m.result * a.h.width ≤ a.n * a.h.width = mul-le-mul_right a.h.width r.few in
    (p.0, record { some = r.some; within = omega (arith, r.within, q.0, q.1) }, omega (arith, p.2))

pub returns-then-lies_here : goal.returns-then-lies_here
returns-then-lies_here c =
    let a = c.args in
    let r = run_counted _ _ _ c.requires.1 c.run_of-m.ensures in
    let q = c.lies_here.ensures.0 c.if-lies_here.true in (
      r.some,
      r.few,
      λ w e y. some-run a.image.now a.fragments.now a.k a.h a.stride c.run_of-m.result a.to a.out.now e
          (omega (arith, r.within, q.0)) (c.put_strided.ensures w),
    )

pub cell_joined-requires : goal.cell_joined-requires
cell_joined-requires c =
    let p = c.requires in
    (p.0, omega (arith, p.2, mul_less c.args.n c.args.h.width p.1))

pub returns : goal.returns
returns c =
    let a = c.args in (
      omega arith,
      omega (arith, c.requires.1),
      λ w e y. some_one a.image.now a.fragments.now a.k a.h a.stride a.to a.out.now
          (c.cell_joined.ensures w e (omega (arith, y.within))),
    )
