-- Each turn writes the cell of the next record.
use Prim.Native.Nat.{◌-◌}
use mathlib.Core.Path.{◌≡◌}
use Rattle.base.specs.Blit.{blit}
use Prim.Native.Nat.{◌+◌}
use Rattle.cells.specs.StridedLaws.{Striding, others}
use lib.ListN.{length}
use Rattle.cells.proofs.strided.strided.Given as goal

abbrev pub invariant-loop-done : goal.invariant-loop-done
invariant-loop-done l =
    Striding l.image l.h l.stride l.at l.index (l.n - l.done) l.out (blit (l.to + l.h.width) (others l.image l.h l.from l.stride l.n) l.initial.out) × (l.width ≡ l.h.width)
    × (length l.out ≡ length l.initial.out)
