-- One more right stretch is put and kept.
use Rattle.places.specs.PassLaws.{keeps_begun}
use mathlib.Core.Path.{refl}
use native.Mathlib.Omega.{arith}
use Rattle.places.proofs.pass.begin.Goals as goal

pub returns : goal.returns
returns c = keeps_begun _ _ _ _ _ _ refl (omega arith) c.put_entry.ensures refl
