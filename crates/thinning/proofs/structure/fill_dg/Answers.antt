-- The links, then the block.
use Rattle.thinning.specs.StructureLaws.{filled-dg}
use borrow.Author.Rules.{rules}
use Rattle.thinning.proofs.structure.fill_dg.Goals as goal

pub returns : goal.returns
returns c = filled-dg _ _ _ _ _ _ c.put_kept_dg.ensures c.dl_place-dl.ensures
    c.link-comment.ensures
