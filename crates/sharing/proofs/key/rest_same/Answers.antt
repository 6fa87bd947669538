-- Each test is that of the next field.
use Rattle.sharing.specs.KeyLaws.{rest_flags, rest_conversion, rest-kept, rest_unit}
use native.Mathlib.Omega.{arith}
use Rattle.std.specs.Prelude.{not}
use Rattle.std.proofs.Common.{ap}
use Rattle.sharing.proofs.key.rest_same.Goals as goal

pub returns-then-not-field_same : goal.returns-then-not-field_same
returns-then-not-field_same c = rest_flags _ _ _ _ _ c.field_same.ensures (ap not c.if-not-field_same.true)

pub returns-then-link_at : goal.returns-then-link_at
returns-then-link_at c = rest_conversion _ _ _ _ _ c.field_same.ensures (ap not c.if-not-field_same.false) c.link_at.ensures c.link_at-2.ensures (omega arith)

pub returns-then-keeps_inval : goal.returns-then-keeps_inval
returns-then-keeps_inval c = rest_unit _ _ _ _ _ c.field_same.ensures (ap not c.if-not-field_same.false) c.link_at.ensures c.link_at-2.ensures (omega arith) c.keeps_inval.ensures
    c.keeps_inval-2.ensures (ap not c.if-keeps_inval.true) c.unit_same.ensures

pub returns-else-keeps_inval : goal.returns-else-keeps_inval
returns-else-keeps_inval c = rw c.if-keeps_inval.false (rest-kept _ _ _ _ _ c.field_same.ensures (ap not c.if-not-field_same.false) c.link_at.ensures c.link_at-2.ensures (omega arith) c.keeps_inval.ensures
    c.keeps_inval-2.ensures (ap not c.if-keeps_inval.false))
