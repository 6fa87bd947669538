-- The link, then its copy by the index.
use Rattle.writing.specs.StructureLaws.{link_new}
use Rattle.window_structure.proofs.column.Copied.link.Goals as goal

pub returns : goal.returns
returns c = link_new _ _ _ (c.link_by.ensures c.args.self.now.indexed) c.link_at.ensures
