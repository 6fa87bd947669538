-- The text, the number and the lines, one after the other.
use borrow.Author.Rules.{rules}
use Rattle.listing.specs.LinesLaws.{omissions_laid}
use Rattle.listing.proofs.lines.put_omissions.Goals as goal

pub returns : goal.returns
returns c = omissions_laid _ _
    c.put_text.ensures
    c.put_number-q.ensures c.put_omission_lines.ensures
