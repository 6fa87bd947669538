-- Nothing where no group is stood for, else all.
use mathlib.Core.Path.{refl}
use Rattle.planning.specs.StandsLaws.{alike_none, alike_all}
use native.Mathlib.Omega.{arith}
use Rattle.planning.proofs.recording.some_stands.Goals as goal

pub returns-then-shared_groups-eq0 : goal.returns-then-shared_groups-eq0
returns-then-shared_groups-eq0 c = alike_none _ _ c.shared_groups.ensures (omega arith) (omega arith)

pub returns : goal.returns
returns c = alike_all _ _ refl
