-- What is left of the links gives what all give; each is copied from outside.
use Prim.Native.Nat.{◌+◌, ◌*◌, ◌-◌, ◌≤◌}
use mathlib.Core.Path.{◌≡◌}
use lib.ListN.{length}
use Rattle.plan.specs.Copies.{copy_links, copy_root}
use Rattle.copier.specs.TurnLaws.{Held}
use Rattle.copier.specs.Standing.{standing}
use Rattle.copier.specs.Index.{Indexed}
use Rattle.copier.proofs.copies.follow.Given as goal

abbrev pub invariant-loop-i : goal.invariant-loop-i
invariant-loop-i l =
    Held l.initial.memo l.initial.st l.memo l.st × (8192 ≤ length l.memo)
    × (copy_links (copy_root l.most l.image) l.image (l.count - l.i) (l.at + 8 * l.i) (standing l.memo l.st)
    ≡ copy_links (copy_root l.most l.image) l.image l.count l.at (standing l.initial.memo l.initial.st)) × Indexed l.memo l.st.used l.index
