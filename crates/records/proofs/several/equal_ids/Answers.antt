-- What is left of the search gives what the whole gives.
use Rattle.records.specs.SeveralLaws.{rest_all, equal_met, equal_next, equal_end}
use Prim.Native.Nat.{◌+◌}
use mathlib.Core.Path.{refl}
use native.Mathlib.Omega.{arith}
use Rattle.records.proofs.several.equal_ids.Goals as goal

pub loop-i-init : goal.loop-i-init
loop-i-init c = refl

pub returns-then-is_id_of : goal.returns-then-is_id_of
returns-then-is_id_of c =
    equal_met _ _ _ c.loop-i.invariant c.loop-i-test.true refl c.record_id.ensures (rw (rest_all _ (c.loop-i.i + 1)) at c.is_id_of.ensures) c.if-is_id_of.true

pub loop-i-preserved : goal.loop-i-preserved
loop-i-preserved c =
    equal_next _ _ _ c.loop-i.invariant c.loop-i-test.true refl c.record_id.ensures (rw (rest_all _ (c.loop-i.i + 1)) at c.is_id_of.ensures) c.if-is_id_of.false

pub returns : goal.returns
returns c = equal_end _ _ c.loop-i.i c.loop-i.invariant (omega arith)
