-- Three numbers, one after the other.
use borrow.Author.Rules.{rules}
use Rattle.listing.specs.LinesLaws.{amounts_laid}
use Rattle.listing.proofs.lines.put_amounts.Goals as goal

pub returns : goal.returns
returns c = amounts_laid _ _ _ c.word-cn.ensures c.word-cg.ensures c.word-records.ensures c.width_of-width.ensures.is _ _
    c.block_count-blocks.ensures c.bytes_of-bytes.ensures c.put_number-p.ensures c.put_number-q.ensures c.put_number.ensures
