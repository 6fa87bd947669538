-- What is left of the nine links gives what all give.
use Prim.Native.Nat.{◌≤◌}
use mathlib.Core.Path.{◌≡◌}
use lib.ListN.{drop}
use lib.ListN.{length}
use Rattle.plan.specs.Copies.{copy_roots}
use Rattle.copier.specs.TurnLaws.{Held}
use Rattle.copier.specs.Roots.{roots}
use Rattle.copier.specs.Standing.{standing}
use Rattle.copier.specs.Index.{Indexed}
use Rattle.copier.proofs.roots.column_roots.Given as goal

abbrev pub invariant-loop-i : goal.invariant-loop-i
invariant-loop-i l =
    Held l.initial.memo l.initial.st l.memo l.st × (8192 ≤ length l.memo)
    × (copy_roots l.most l.image (drop l.i (roots l.image l.dg l.cg l.cn)) (standing l.memo l.st) ≡ copy_roots l.most l.image (roots l.image l.dg l.cg l.cn) (standing
    l.initial.memo l.initial.st)) × Indexed l.memo l.st.used l.index
