-- A link of 0 has none.
use Rattle.ranges.specs.BlocksLaws.{links_none, links_some}
use Rattle.ranges.proofs.block.links_of.Goals as goal

pub returns-then-a-eq0 : goal.returns-then-a-eq0
returns-then-a-eq0 c = links_none _ _ c.if-a-eq0.true

pub returns : goal.returns
returns c = links_some _ _ c.if-a-eq0.false c.links_at.ensures
