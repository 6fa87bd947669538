-- The link, then its copy by the index.
use Rattle.thinning.specs.StructureLaws.{link_new}
use borrow.Author.Rules.{rules}
use Rattle.thinning.proofs.structure.link.Goals as goal

pub returns : goal.returns
returns c = link_new _ _ _ (c.link_by.ensures c.args.led.now.indexed) c.link_at-to.ensures
