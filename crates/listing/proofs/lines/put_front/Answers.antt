-- The number, the letter and a blank, one after the other.
use borrow.Author.Rules.{rules}
use Rattle.listing.specs.LinesLaws.{front-laid}
use Rattle.listing.proofs.lines.put_front.Goals as goal

pub returns : goal.returns
returns c = front-laid _ _
    c.word.ensures
    c.letter-mark.ensures.is
    c.put_number-p.ensures
    c.put_byte.ensures c.put_byte-2.ensures
