-- The link, then its copy.
use Rattle.thinning.specs.StructureLaws.{link_new}
use borrow.Author.Rules.{rules}
use Rattle.thinning.proofs.front.comment_of.Goals as goal

pub returns : goal.returns
returns c = link_new _ _ _ c.new_link.ensures c.link_at.ensures
