-- The pages that are left, laid over the slice as it is now, give all pages.
use native.Mathlib.Omega.{arith}
use Rattle.sheets.specs.PageLaws.{paging_begin, paging_room, paging_page, paging_turn, paging_end}
use borrow.Author.Rules.{rules}
use Rattle.sheets.proofs.page.put_pages.Goals as goal

pub loop-i-init : goal.loop-i-init
loop-i-init c = paging_begin _ _ _ c.page_count-all.ensures c.requires

pub put_page-p-requires : goal.put_page-p-requires
put_page-p-requires c = (
  omega (arith, paging_room _ _ _ c.loop-i.invariant),
  search rules,
  paging_page _ _ _ c.loop-i.invariant c.loop-i-test.true,
)

pub loop-i-preserved : goal.loop-i-preserved
loop-i-preserved c = paging_turn _ _ _ c.loop-i.invariant c.loop-i-test.true c.put_page-p.ensures

pub shape_of-lines : goal.shape_of-lines
shape_of-lines c = c.loop-i.invariant.size

pub returns : goal.returns
returns c = paging_end _ _ _ c.loop-i.invariant c.loop-i-test.false
