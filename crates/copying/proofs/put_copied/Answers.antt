-- Header, links and data, one after the other.
use Rattle.copying.specs.CopyingLaws.{copied-laid}
use Rattle.copying.proofs.put_copied.Goals as goal

pub returns : goal.returns
returns c = λ t x. copied-laid _ _ _ _ _ _
    c.links_at-links.ensures
    c.kind_at.ensures
    c.size_at.ensures
    c.header.ensures
    (c.put_copied_links.ensures t x) c.put_data.ensures
