-- The text, the number and the lines, one after the other.
use borrow.Author.Rules.{rules}
use Rattle.listing.specs.LinesLaws.{columns-laid}
use Rattle.listing.proofs.lines.put_columns.Goals as goal

pub returns : goal.returns
returns c = columns-laid _ _ _ _ _
    c.put_text.ensures
    c.put_number-q.ensures c.put_column_lines.ensures
