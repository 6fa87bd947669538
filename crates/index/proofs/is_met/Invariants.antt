-- What is left of the chain gives what all the words give.
use Prim.Native.Nat.{◌≤◌}
use lib.ListN.{length}
use Rattle.index.specs.Index.{Indexed}
use Rattle.index.specs.MetLaws.{Chasing}
use Rattle.index.proofs.is_met.Given as goal

abbrev pub invariant-loop-i : goal.invariant-loop-i
invariant-loop-i l = l.n ≤ 2048 → l.n ≤ length l.words → Indexed 1 l.words l.n l.index → Chasing l.words l.n l.a l.i

abbrev pub decreases-loop-i : goal.decreases-loop-i
decreases-loop-i l = l.i
