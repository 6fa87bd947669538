-- The copies that are left give what all give; a hit or the end answers.
use Prim.Native.Nat.{◌*◌, ◌-◌, ◌/◌}
use mathlib.Core.Path.{◌≡◌}
use lib.ListN.{length}
use Rattle.plan.specs.Copies.{copy_of}
use Rattle.copier.specs.Standing.{copies_from}
use Rattle.copier.proofs.memo.find.Given as goal

abbrev pub invariant-loop-i : goal.invariant-loop-i
invariant-loop-i l = copy_of l.a (copies_from l.memo (2 * l.i) (length l.memo / 2 - l.i)) ≡ copy_of l.a (copies_from l.memo 0 (length l.memo / 2))
