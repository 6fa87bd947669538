-- Each way is a stretch with the record or the stretch as it was.
use Rattle.places.specs.LongerLaws.{longer-first, longer-second, longer-next}
use native.Mathlib.Omega.{arith}
use Rattle.places.proofs.several.longer.Goals as goal

pub returns-then-t-eq0 : goal.returns-then-t-eq0
returns-then-t-eq0 c = longer-first _ _ (omega arith)

pub returns-then-t-eq1 : goal.returns-then-t-eq1
returns-then-t-eq1 c = longer-second _ _ (omega arith) (omega arith)

pub returns : goal.returns
returns c = longer-next _ _ (omega arith) (omega arith) (omega arith)
