-- Two numbers, one after the other.
use borrow.Author.Rules.{rules}
use Rattle.listing.specs.LinesLaws.{sizes_laid}
use Rattle.listing.proofs.lines.put_sizes.Goals as goal

pub returns : goal.returns
returns c = sizes_laid _ _ _
    c.word-cn.ensures
    c.word-cg.ensures
    c.channel_bytes-bytes.ensures.is
    c.inval_byte-inval.ensures
    c.put_number-p.ensures c.put_number.ensures
