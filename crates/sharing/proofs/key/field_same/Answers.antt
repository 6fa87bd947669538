-- Both numbers are those of the definition.
use Rattle.std.proofs.Common.{min, ◌≡◌}
use Rattle.std.proofs.Math.Nat.{min-eq_left}
use Rattle.sharing.specs.KeyLaws.{tests_same}
use Rattle.sharing.proofs.key.field_same.Goals as goal

pub returns : goal.returns
returns g c =
    let n : min g.row.N 8 ≡ g.row.N = min-eq_left c.requires in
    tests_same (rw n at c.data_field.ensures.is) (rw n at c.data_field-2.ensures.is)
