-- The number, then the byte.
use borrow.Author.Rules.{rules}
use Rattle.texts.specs.LaidLaws.{laid_then}
use Rattle.listing.specs.Lines.{number_then}
use Rattle.listing.proofs.text.put_number.Goals as goal

pub returns : goal.returns
unfolding number_then
returns c = laid_then c.put_decimal-p.ensures
    c.put_byte.ensures
