-- Each test is that of the next field.
use Rattle.sharing.specs.KeyLaws.{form_type, form_sync, form_data, form_offset, form_bits}
use Rattle.std.specs.Prelude.{not}
use Rattle.std.proofs.Common.{ap}
use Rattle.sharing.proofs.key.form_same.Goals as goal

pub returns-then-not-field_same : goal.returns-then-not-field_same
returns-then-not-field_same c = form_type _ _ _ c.field_same.ensures (ap not c.if-not-field_same.true)

pub returns-then-not-field_same-2 : goal.returns-then-not-field_same-2
returns-then-not-field_same-2 c = form_sync _ _ _ c.field_same.ensures (ap not c.if-not-field_same.false) c.field_same-2.ensures (ap not c.if-not-field_same-2.true)

pub returns-then-not-field_same-3 : goal.returns-then-not-field_same-3
returns-then-not-field_same-3 c = form_data _ _ _ c.field_same.ensures (ap not c.if-not-field_same.false) c.field_same-2.ensures (ap not c.if-not-field_same-2.false) c.field_same-3.ensures (ap not c.if-not-field_same-3.true)

pub returns-then-not-field_same-4 : goal.returns-then-not-field_same-4
returns-then-not-field_same-4 c = form_offset _ _ _ c.field_same.ensures (ap not c.if-not-field_same.false) c.field_same-2.ensures (ap not c.if-not-field_same-2.false) c.field_same-3.ensures (ap not c.if-not-field_same-3.false) c.field_same-4.ensures (ap not c.if-not-field_same-4.true)

pub returns : goal.returns
returns c = form_bits _ _ _ c.field_same.ensures (ap not c.if-not-field_same.false) c.field_same-2.ensures (ap not c.if-not-field_same-2.false) c.field_same-3.ensures (ap not c.if-not-field_same-3.false) c.field_same-4.ensures (ap not c.if-not-field_same-4.false) c.field_same-5.ensures
