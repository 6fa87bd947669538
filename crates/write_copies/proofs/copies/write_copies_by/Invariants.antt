-- Each turn writes a copy; the copies that are left end what all are.
use Rattle.write_copies.specs.CopiesLaws.{CopiesLeft}
use Rattle.copies_laws.specs.Laid.{Laid}
use Rattle.result.specs.Fill.{copied_blocks}
use Rattle.copier.specs.Standing.{copies_in}
use Rattle.copier.specs.Index.{Indexes}
use Rattle.copying.specs.ChainIndex.{ChainIndexes}
use Rattle.work_words.specs.CopyWords.{history_at}
use Rattle.base.specs.Blit.{part}
use Prim.Native.Nat.{◌-◌, ◌≤◌}
use mathlib.Core.Path.{◌≡◌}
use lib.ListN.{length}
use Rattle.write_copies.proofs.copies.write_copies_by.Given as goal

abbrev pub invariant-loop-i : goal.invariant-loop-i
invariant-loop-i l =
    (length l.out ≡ length l.initial.out) × (l.from ≤ l.to → l.to ≤ l.copies.used → Laid l.copies.image.now l.at (part l.from (l.to - l.from) (copies_in l.copies.memo.now l.copies.used)) (length l.initial.out)
    → Indexes l.copies.memo.now l.copies.used l.copies.index.now → ChainIndexes l.copies.memo.now l.history.chain l.history.chained.now → CopiesLeft l.copies.image.now l.copies.memo.now (part history_at l.history.chain l.copies.memo.now) (copies_in l.copies.memo.now l.copies.used) l.history.fh l.at
    (copied_blocks l.copies.image.now (part history_at l.history.chain l.copies.memo.now) (copies_in l.copies.memo.now l.copies.used) l.history.fh (part l.from (l.to - l.from) (copies_in l.copies.memo.now l.copies.used))) l.initial.out l.to l.i l.p l.out)
