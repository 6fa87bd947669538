-- The links are those of the column's CN.
use Rattle.std.proofs.Common.{refl, rules}
use Rattle.base.specs.Blit.{blit}
use Rattle.writing.specs.StructureLaws.{filled-front}
use Rattle.writing.proofs.structure.fill_front.Goals as goal

pub link-name-requires : goal.link-name-requires
link-name-requires c = c.requires.0

pub link-source-requires : goal.link-source-requires
link-source-requires c = c.requires.0

pub link-conversion-requires : goal.link-conversion-requires
link-conversion-requires c = c.requires.0

pub link-unit-requires : goal.link-unit-requires
link-unit-requires c = c.requires.0

pub link-comment-requires : goal.link-comment-requires
link-comment-requires c = c.requires.0

pub returns : goal.returns
returns c = filled-front _ _ _ (blit 0) _ _ c.put_cn.ensures refl refl c.link-name.ensures c.link-source.ensures c.link-conversion.ensures c.link-unit.ensures c.link-comment.ensures
