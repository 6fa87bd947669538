-- The copy of what the link leads to.
use Rattle.writing.specs.StructureLaws.{link_new}
use Rattle.std.proofs.Common.{rules}
use Rattle.writing.proofs.structure.link.Goals as goal

pub returns : goal.returns
returns c = link_new _ _ _ (c.link_by.ensures c.requires) c.link_at-to.ensures
