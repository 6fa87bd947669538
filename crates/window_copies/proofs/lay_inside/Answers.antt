-- Header, links and data, one after the other.
use Rattle.window_copies.specs.LaidLaws.{copied-over}
use Rattle.window_copies.proofs.lay_inside.Goals as goal

pub returns : goal.returns
returns c = λ t x. copied-over _ _ _ _ _ _ _ c.links_at-links.ensures c.kind_at.ensures c.size_at.ensures c.lay_header.ensures
    (c.lay_copied_links.ensures t x) c.lay_data.ensures
