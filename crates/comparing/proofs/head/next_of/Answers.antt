-- A group alone in its DG is number 0 there; for one of several the tables are those of its DG's groups.
use Rattle.comparing.specs.HeadLaws.{next-alone}
use native.Mathlib.Omega.{arith}
use Rattle.comparing.proofs.head.next_of.Goals as goal

pub returns-then-groups-eq1 : goal.returns-then-groups-eq1
returns-then-groups-eq1 c f = next-alone _ _ _ _ _ _ _ (omega arith) c.sorted_next.ensures

pub returns : goal.returns
returns c f = c.several_next.ensures _ c.id_size-n.ensures.is (λ e. omega arith) (f (λ e. omega arith))
