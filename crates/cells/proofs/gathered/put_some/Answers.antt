-- Those that lie in one fragment, or one record from several.
use Rattle.cells.specs.StridedLaws.{mul_less}
use Rattle.joined.specs.SpotLaws.{spot_size}
use Rattle.cells.specs.GatheredLaws.{spot_alike, spot_one}
use native.Mathlib.Omega.{arith}
use Rattle.cells.proofs.gathered.put_some.Goals as goal

pub overflow_sub-v : goal.overflow_sub-v
overflow_sub-v c = (c.lies_here.ensures.0 c.if-lies_here.true).0

pub put_near-requires : goal.put_near-requires
put_near-requires c =
    let p = c.requires in
    let y = c.lies_here.ensures.0 c.if-lies_here.true in
    (p.0, record { some = p.1; words = p.2; first = p.3; inside = omega (arith, y.0, y.1) }, p.4)

pub returns-then-lies_here : goal.returns-then-lies_here
returns-then-lies_here c =
    let a = c.args in
    let g = c.put_near.ensures in
    record {
      some = g.some;
      few = g.few;
      put = λ w t i. g.put w.shaped _ (spot_alike t a.h.length a.from a.n (c.lies_here.ensures.0 c.if-lies_here.true).0);
    }

pub cell_joined-requires : goal.cell_joined-requires
cell_joined-requires c =
    let p = c.requires in
    (p.0, omega (arith, p.4, mul_less c.args.n c.args.h.width p.1))

pub returns : goal.returns
returns c =
    let a = c.args in
    let p = c.requires in
    record {
      some = omega arith;
      few = p.1;
      put = λ w t i. spot_one t a.words.now a.from a.to a.out.now w.shaped w.ranges (omega (arith, p.1, p.2)) p.3 i
          (c.cell_joined.ensures w.shaped t.ranges (omega (arith, i, spot_size t w.ranges)));
    }
