-- What is left of the links gives what all give. The depth left falls.
use Prim.Native.Nat.{◌+◌, ◌*◌, ◌-◌}
use Rattle.copier.specs.TurnLaws.{Turn}
use Rattle.copier.specs.Index.{Indexed}
use Rattle.copier.proofs.copies.+copy.Given as goal

abbrev pub decreases-copy : goal.decreases-copy
decreases-copy l = l.left

abbrev pub invariant-loop-i : goal.invariant-loop-i
invariant-loop-i l =
    Turn l.most l.left l.image l.down l.initial.memo l.links l.p l.initial.st l.memo (l.links - l.i) (l.p + 8 * l.i) l.st
    × Indexed l.memo l.st.used l.index
