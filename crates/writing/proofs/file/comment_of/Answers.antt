use Rattle.writing.specs.StructureLaws.{link_new}
use Rattle.std.proofs.Common.{rules}
use Rattle.writing.proofs.file.comment_of.Goals as goal

-- src/file.rt:46:1
pub returns : goal.returns
returns c = link_new _ _ _ c.new_link.ensures c.link_at-a.ensures
