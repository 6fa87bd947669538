-- Heading and lines.
use Rattle.sheets.specs.PageLaws.{page_put}
use Rattle.sheets.proofs.page.put_page.Goals as goal

pub returns : goal.returns
returns c = page_put _ _ _ _ _ c.min-count.ensures
    c.put_heading.ensures c.put_lines.ensures
