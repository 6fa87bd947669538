-- What is left of the columns, laid over the words, gives the words at exit.
use Rattle.arranging.specs.SpotsLaws.{place_begin, place_end, place_over, place_room, place_next, place_on, spotted, spotted-over}
use native.Mathlib.Omega.{arith}
use Rattle.arranging.proofs.placement.place_columns.Goals as goal

pub loop-k-init : goal.loop-k-init
loop-k-init c = place_begin _ _ _ _ _ _ _ c.args.file.now.few c.requires.0 c.requires.1 c.args.file.now.on_unit c.requires.2

pub spot_of-requires : goal.spot_of-requires
spot_of-requires c = (omega (arith, c.loop-k.invariant.at), c.loop-k.invariant.near)

pub returns-in_err-spot : goal.returns-in_err-spot
returns-in_err-spot c = rw c.from_residual.ensures (place_over c.loop-k.invariant (omega arith) (spotted-over _ _ _ _ c.spot_of.ensures c.in_err-spot.was))

pub put_place-requires : goal.put_place-requires
put_place-requires c = omega (arith, c.loop-k.invariant.to, c.loop-k.invariant.long)

pub structure_at-dg-requires : goal.structure_at-dg-requires
structure_at-dg-requires c = omega (arith, c.loop-k.invariant.at)

pub overflow_add-dg : goal.overflow_add-dg
overflow_add-dg c = omega (arith, place_room c.loop-k.invariant (omega arith) c.structure_at-dg.ensures)

pub loop-k-preserved : goal.loop-k-preserved
loop-k-preserved c = place_on _ (place_next c.loop-k.invariant (omega arith) c.structure_at-dg.ensures (spotted _ _ _ _ c.spot_of.ensures c.in_ok-spot.was) c.put_place.ensures)

pub returns : goal.returns
returns c = place_end c.loop-k.invariant (omega arith)
