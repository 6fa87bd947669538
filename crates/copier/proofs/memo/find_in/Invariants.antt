-- What is left of the chain, and the last that was met, give the copy.
use Prim.Native.Nat.{◌≤◌}
use mathlib.Core.Path.{◌≡◌}
use Rattle.copier.specs.Index.{Indexed}
use Rattle.copier.specs.IndexLaws.{Chasing}
use Rattle.copier.proofs.memo.find_in.Given as goal

abbrev pub invariant-loop-i : goal.invariant-loop-i
invariant-loop-i l = (l.hit ≤ l.used) × (l.most ≡ l.used) × (Indexed l.memo l.used l.index → Chasing l.memo l.used l.a l.i l.hit)

abbrev pub decreases-loop-i : goal.decreases-loop-i
decreases-loop-i l = l.i
