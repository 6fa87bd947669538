-- The links, then the block.
use Rattle.thinning.specs.StructureLaws.{filled-cg}
use borrow.Author.Rules.{rules}
use Rattle.thinning.proofs.structure.fill_cg.Goals as goal

pub returns : goal.returns
returns c = filled-cg _ _ _ _ _ c.put_kept_cg.ensures c.link-name.ensures
    c.link-source.ensures c.link-comment.ensures
