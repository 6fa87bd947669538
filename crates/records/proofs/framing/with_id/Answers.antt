-- What is left of the search gives what the whole gives.
use Rattle.records.specs.FrameLaws.{id_met, id_next, id_end}
use mathlib.Core.Path.{refl}
use native.Mathlib.Omega.{arith}
use Rattle.records.proofs.framing.with_id.Goals as goal

pub loop-i-init : goal.loop-i-init
loop-i-init c = refl

pub returns-then-record_id-id : goal.returns-then-record_id-id
returns-then-record_id-id c =
    id_met _ _ _ _ c.loop-i.invariant c.loop-i-test.true refl c.record_id.ensures c.if-record_id-id.true

pub loop-i-preserved : goal.loop-i-preserved
loop-i-preserved c =
    id_next _ _ _ _ c.loop-i.invariant c.loop-i-test.true refl c.record_id.ensures c.if-record_id-id.false

pub returns : goal.returns
returns c = id_end _ _ _ _ c.loop-i.invariant (omega arith)
