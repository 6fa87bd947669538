-- Header, the link to the next AT, the other links and the data, one after the other.
use Rattle.window_copies.specs.LaidLaws.{at-over}
use Rattle.window_copies.proofs.lay_at_inside.Goals as goal

pub returns : goal.returns
returns c = λ t. at-over _ _ _ _ _ _ c.header_size-n.ensures c.links_at-links.ensures c.more_links-more.ensures c.lay.ensures c.lay_u64.ensures
    (c.lay_links.ensures t) c.lay_data.ensures
