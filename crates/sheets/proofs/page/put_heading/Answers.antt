-- Texts, numbers, blanks, newline.
use Rattle.sheets.specs.PageLaws.{heading_put}
use Rattle.sheets.proofs.page.put_heading.Goals as goal

pub returns : goal.returns
returns c =
    heading_put _ _ c.put_text.ensures c.put_decimal-end.ensures c.put_text-end.ensures c.put_decimal-end-2.ensures c.fill.ensures c.put_u8.ensures
