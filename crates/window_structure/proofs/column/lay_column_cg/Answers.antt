-- Apart from the window there is nothing to do; else the links are those of the column's CG.
use mathlib.Core.Path.{refl}
use Rattle.stores.specs.Over.{over}
use Rattle.window_blocks.specs.ApartLaws.{apart_same}
use Rattle.writing.specs.StructureLaws.{filled-cg}
use Rattle.window_structure.specs.ColumnLaws.{cg_most}
use Rattle.window_structure.proofs.column.lay_column_cg.Goals as goal

pub returns-then-apart : goal.returns-then-apart
returns-then-apart c = apart_same _ _ 112 _ _ _ (c.apart.ensures c.if-apart.true) refl (cg_most _ _ _)

pub returns : goal.returns
returns c = filled-cg _ _ _ (over _ _) _ _ c.lay_cg.ensures c.link-name.ensures c.link-source.ensures c.link-comment.ensures c.channel_bytes-bytes.ensures.is c.keeps_inval-inval.ensures
