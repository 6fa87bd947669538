-- A CG over the column's numbers.
use Rattle.base.specs.Blit.{blit}
use Rattle.writing.specs.StructureLaws.{filled-cg}
use Rattle.std.proofs.Common.{rules}
use Rattle.writing.proofs.structure.fill_cg.Goals as goal

pub link-name-requires : goal.link-name-requires
link-name-requires c = c.requires

pub link-source-requires : goal.link-source-requires
link-source-requires c = c.requires

pub link-comment-requires : goal.link-comment-requires
link-comment-requires c = c.requires

pub returns : goal.returns
returns c =
    filled-cg _ _ _ (blit 0) _ _ c.put_cg.ensures
    c.link-name.ensures
    c.link-source.ensures
    c.link-comment.ensures
    c.channel_bytes-bytes.ensures.is
    c.keeps_inval-inval.ensures
