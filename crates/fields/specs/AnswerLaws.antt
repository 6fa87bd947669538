-- What `?` passes on is the error that it met.
use Rattle.std.specs.Prelude.{◌≡◌, Result, Ok, Err, IsErr, IsErrAnd}
use Rattle.std.proofs.Common.{ap}

pub passed_on : {A E : Type 0} (r : Result A E) (x : E) → IsErr r × IsErrAnd r (λ y. y ≡ x) → r ≡ Err x
passed_on (Ok y) x h = absurd h.1
passed_on (Err y) x h = ap Err h.1
