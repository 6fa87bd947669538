-- The block with the first byte, then block by block.
use mathlib.Core.Path.{refl}
use Rattle.ranges.specs.ReadLaws.{fill_asks, fill_is}
use Rattle.ranges.proofs.read.fill.Goals as goal

pub copy_from-requires : goal.copy_from-requires
copy_from-requires c = fill_asks _ _ _ _ _ c.requires c.link_at-a.ensures c.links_of-links.ensures c.seek.result c.seek.ensures

pub returns : goal.returns
returns c = fill_is _ _ _ _ _ c.requires c.link_at-a.ensures c.links_of-links.ensures c.seek.result c.seek.ensures c.args.buffer.now refl c.copy_from.ensures
