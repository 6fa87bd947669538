-- What is left of the columns gives what all of them give, as long as it ends by 2^59.
use Rattle.arranging.specs.SpotsLaws.{structures_begin, structures_end_lem, structures_over, structures_next, structures_on}
use native.Mathlib.Omega.{arith}
use Rattle.arranging.proofs.placement.structure_end.Goals as goal

pub loop-k-init : goal.loop-k-init
loop-k-init c = structures_begin _ _ _ _ c.args.file.now.few c.requires

pub structure_at-end-requires : goal.structure_at-end-requires
structure_at-end-requires c = omega (arith, c.loop-k.invariant.at)

pub overflow_add-end : goal.overflow_add-end
overflow_add-end c = omega (arith, c.loop-k.invariant.near, c.structure_at-end.ensures.near)

pub returns-then-end-gt576460752303423488 : goal.returns-then-end-gt576460752303423488
returns-then-end-gt576460752303423488 c = structures_over c.loop-k.invariant (omega arith) c.structure_at-end.ensures c.if-end-gt576460752303423488.true

pub loop-k-preserved : goal.loop-k-preserved
loop-k-preserved c = structures_on _ (structures_next c.loop-k.invariant (omega arith) c.structure_at-end.ensures c.if-end-gt576460752303423488.false)

pub returns : goal.returns
returns c = structures_end_lem c.loop-k.invariant (omega arith)
