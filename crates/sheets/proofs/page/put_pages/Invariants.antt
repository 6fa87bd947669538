-- The pages that are left, laid over the slice as it is now, give all pages.
use Rattle.sheets.specs.PageLaws.{Paging}
use Rattle.sheets.proofs.page.put_pages.Given as goal

abbrev pub invariant-loop-i : goal.invariant-loop-i
invariant-loop-i l = Paging l.image l.source l.n l.all l.i l.p l.initial.lines l.lines
