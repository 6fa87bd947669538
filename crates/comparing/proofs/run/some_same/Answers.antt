-- One record of each, or those of a run of each.
use Rattle.comparing.specs.RunLaws.{run_lying, some_one, some-run}
use native.Mathlib.Omega.{arith}
use Rattle.comparing.proofs.run.some_same.Goals as goal

pub cell_same-equal-requires : goal.cell_same-equal-requires
cell_same-equal-requires c = c.requires

pub returns-then-m-eq0 : goal.returns-then-m-eq0
returns-then-m-eq0 c = some_one _ _ _ _ c.cell_same-equal.ensures

pub strided_same-equal-requires : goal.strided_same-equal-requires
strided_same-equal-requires c =
    let o = c.requires in
    let l = c.min-m.ensures in
    (o.0, o.1, o.2, o.3, run_lying c.run_here-x.ensures _ (omega arith) (omega arith), run_lying c.run_here-y.ensures _ (omega arith) (omega arith))

pub returns : goal.returns
returns c = let l = c.min-m.ensures in some-run _ _ _ _ _ (omega arith) (omega arith) (omega arith) c.run_here-x.ensures c.run_here-y.ensures c.strided_same-equal.ensures
