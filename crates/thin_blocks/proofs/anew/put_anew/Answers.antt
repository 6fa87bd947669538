-- The header, then the data from where it begins, as many bytes as the image has.
use Rattle.thin_blocks.specs.AnewLaws.{anew_is}
use Rattle.thin_blocks.proofs.anew.put_anew.Goals as goal

pub returns : goal.returns
returns c = anew_is _ _ _ _ _ _ _ _ _ c.past_header-from.ensures
    c.bytes_at-n.ensures
    c.min-here.ensures
    c.header.ensures c.copy.ensures
