-- The pieces of the line, one after the other.
use borrow.Author.Rules.{rules}
use Rattle.listing.specs.LinesLaws.{line-laid}
use Rattle.listing.proofs.lines.put_column_line.Goals as goal

pub returns : goal.returns
returns c = line-laid _ _ _ _ _
    c.word-master.ensures
    c.put_front-p.ensures
    c.put_sizes-q.ensures
    c.put_amounts-t.ensures
    c.put_master-u.ensures c.put_byte.ensures
