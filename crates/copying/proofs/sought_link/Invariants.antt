-- What is left of the history chain gives what all of it gives.
use Rattle.copying.specs.CopyingLaws.{Chain}
use Rattle.result.specs.Fill.{history_link, first_new}
use Rattle.copier.specs.Standing.{copies_in}
use Rattle.work_words.specs.CopyWords.{history_at}
use Rattle.base.specs.Blit.{part}
use Rattle.copying.proofs.sought_link.Given as goal

abbrev pub invariant-loop-i : goal.invariant-loop-i
invariant-loop-i l =
    Chain l.copies.image.now l.copies.memo.now (copies_in l.copies.memo.now l.copies.used) l.history.fh l.a l.i l.end
    (first_new l.copies.image.now (copies_in l.copies.memo.now l.copies.used) l.a (history_link l.a (part history_at l.history.chain l.copies.memo.now) (copies_in l.copies.memo.now l.copies.used) l.history.fh))
