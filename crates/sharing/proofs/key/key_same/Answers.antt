-- The count, then the two parts of the key.
use Rattle.sharing.specs.KeyLaws.{key_records, key_form, key_rest}
use native.Mathlib.Omega.{arith}
use Rattle.std.specs.Prelude.{not}
use Rattle.std.proofs.Common.{ap}
use mathlib.Core.Path.{◌∙◌}
use Rattle.sharing.proofs.key.key_same.Goals as goal

pub returns-then-ng-nh : goal.returns-then-ng-nh
returns-then-ng-nh c = key_records _ _ _ _ _ _ _ (omega arith)

pub returns-then-form_same : goal.returns-then-form_same
returns-then-form_same c = key_rest _ _ _ _ _ _ _ (omega arith) c.form_same.ensures (ap not c.if-form_same.true) c.rest_same.ensures

pub returns-else-form_same : goal.returns-else-form_same
returns-else-form_same c = c.if-form_same.false ∙ key_form _ _ _ _ _ _ _ (omega arith) c.form_same.ensures (ap not c.if-form_same.false)
