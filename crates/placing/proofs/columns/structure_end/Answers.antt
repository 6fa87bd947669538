-- What is left of the columns gives what all of them give.
use Rattle.placing.specs.InWordsLaws.{structures_begin, structures_end_lem, structure-few, structures_room, structures_next}
use mathlib.Core.Path.{◌≡◌}
use Prim.Native.Nat.{◌+◌, ◌-◌, ◌*◌}
use native.Mathlib.Omega.{arith}
use Rattle.placing.proofs.columns.structure_end.Goals as goal

pub loop-k-init : goal.loop-k-init
loop-k-init c = structures_begin _ _ _ _ _ _ c.requires.0 c.requires.1 c.requires.2

pub structure_at-end-requires : goal.structure_at-end-requires
structure_at-end-requires c = (omega (arith, c.loop-k.invariant.at), structure-few c.loop-k.invariant (omega arith))

pub overflow_add-end : goal.overflow_add-end
overflow_add-end c = let x = structures_room c.loop-k.invariant (omega arith) c.structure_at-end.ensures in omega arith

pub loop-k-preserved : goal.loop-k-preserved
loop-k-preserved c =
    let e : 8 * (c.loop-k.k + 1) ≡ 8 * c.loop-k.k + 8 = omega arith in
    let f : c.args.c.n - (c.loop-k.k + 1) ≡ c.args.c.n - c.loop-k.k - 1 = omega arith in
    rw (e, f) (structures_next c.loop-k.invariant (omega arith) c.structure_at-end.ensures)

pub returns : goal.returns
returns c = structures_end_lem c.loop-k.invariant (omega arith)
