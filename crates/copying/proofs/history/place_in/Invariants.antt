-- What is left of the chain, and the last that was met, give the first.
use Prim.Native.Nat.{◌≤◌}
use mathlib.Core.Path.{◌≡◌}
use lib.ListN.{drop}
use Rattle.work_words.specs.CopyWords.{history_at}
use Rattle.index.specs.Index.{Indexed}
use Rattle.copying.specs.ChainIndexLaws.{Chasing}
use Rattle.copying.proofs.history.place_in.Given as goal

abbrev pub invariant-loop-i : goal.invariant-loop-i
invariant-loop-i l = (l.hit ≤ l.n) × (l.most ≡ l.n)
    × (Indexed 1 (drop history_at l.memo) l.n l.index → Chasing (drop history_at l.memo) l.n l.a l.i l.hit)

abbrev pub decreases-loop-i : goal.decreases-loop-i
decreases-loop-i l = l.i
