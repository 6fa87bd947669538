-- Each turn lays a copy; the copies that are left give what all give.
use Rattle.window_copies.specs.Laying.{Laying}
use Rattle.copying.specs.ChainIndex.{ChainIndexes}
use Rattle.copier.specs.Index.{Indexes}
use Rattle.copier.specs.Standing.{copies_in}
use Rattle.work_words.specs.CopyWords.{history_at}
use Rattle.base.specs.Blit.{part}
use Prim.Native.Nat.{ℕ}
use mathlib.Core.List.{List}
use mathlib.Core.Path.{◌≡◌}
use lib.ListN.{length}
use Rattle.window_copies.proofs.copies.lay_copies_by.Given as goal

abbrev pub invariant-loop-i : goal.invariant-loop-i
invariant-loop-i l =
    (length l.w ≡ length l.initial.w) × ((g : List ℕ) → Indexes l.copies.memo.now l.copies.used l.copies.index.now → ChainIndexes l.copies.memo.now l.history.chain l.history.chained.now
    → Laying l.copies.image.now l.copies.memo.now (part history_at l.history.chain l.copies.memo.now) (copies_in l.copies.memo.now l.copies.used) l.history.fh l.a l.to g l.from l.initial.w
    → Laying l.copies.image.now l.copies.memo.now (part history_at l.history.chain l.copies.memo.now) (copies_in l.copies.memo.now l.copies.used) l.history.fh l.a l.to g l.i l.w)
