-- The entry stays, or is a right one with a record more.
use Rattle.places.specs.PassLaws.{keeps_longer}
use Rattle.places.specs.PoolLaws.{kept_few}
use native.Mathlib.Omega.{arith}
use Rattle.places.proofs.pass.extend.Goals as goal

pub returns : goal.returns
returns c =
    keeps_longer _ _ _ _ _ _ (kept_few _ _ c.kept_in.ensures) (omega arith) c.in-Some.ensures c.longer.ensures c.in-Some-longer.is c.put_entry.ensures
