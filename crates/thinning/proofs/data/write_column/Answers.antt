-- The data blocks, then the SD where there is one.
use mathlib.Core.Path.{refl}
use Rattle.thinning.specs.DataLaws.{moved_ready, wrote_only, signal_room, wrote_both}
use borrow.Author.Rules.{rules}
use Rattle.thinning.proofs.data.write_column.Goals as goal

pub write_moved-to-requires : goal.write_moved-to-requires
write_moved-to-requires c = moved_ready c.requires
    c.link_at-a.ensures c.links_of-links.ensures

pub returns-then-file-i-eq0 : goal.returns-then-file-i-eq0
returns-then-file-i-eq0 c = wrote_only c.requires
    c.link_at-a.ensures
    c.links_of-links.ensures c.write_moved-to.ensures
    c.if-file-i-eq0.true

pub write_sd-requires : goal.write_sd-requires
write_sd-requires c = signal_room
    c.requires
    c.link_at-a.ensures
    c.links_of-links.ensures
    c.write_moved-to.ensures c.if-file-i-eq0.false
    c.link_at-x.ensures refl

pub returns : goal.returns
returns c = wrote_both
    c.requires
    c.link_at-a.ensures
    c.links_of-links.ensures
    c.write_moved-to.ensures
    c.if-file-i-eq0.false c.link_at-x.ensures
    c.write_sd.ensures
