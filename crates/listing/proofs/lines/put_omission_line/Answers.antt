-- Two numbers, one after the other.
use borrow.Author.Rules.{rules}
use Rattle.listing.specs.LinesLaws.{omission_laid}
use Rattle.listing.proofs.lines.put_omission_line.Goals as goal

pub returns : goal.returns
returns c = omission_laid _ _ c.word-address.ensures
    c.word-reason.ensures
    c.put_number-p.ensures c.put_number.ensures
