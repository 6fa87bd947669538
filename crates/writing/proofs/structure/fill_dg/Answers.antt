-- The links are those of the column's DG.
use Rattle.base.specs.Blit.{blit}
use Rattle.writing.specs.StructureLaws.{filled-dg}
use Rattle.std.proofs.Common.{rules}
use Rattle.writing.proofs.structure.fill_dg.Goals as goal

pub link-comment-requires : goal.link-comment-requires
link-comment-requires c = c.requires.2

pub returns : goal.returns
returns c = filled-dg _ _ _ (blit 0) _ _ _ c.put_dg.ensures c.dl_place-dl.ensures c.link-comment.ensures
