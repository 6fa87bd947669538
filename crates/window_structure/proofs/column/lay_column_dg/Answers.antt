-- Apart from the window there is nothing to do; else the links are those of the column's DG.
use Rattle.stores.specs.Over.{over}
use Rattle.window_blocks.specs.ApartLaws.{apart_same}
use Rattle.writing.specs.StructureLaws.{length-column_dg, filled-dg}
use native.Mathlib.Omega.{arith}
use Rattle.window_structure.proofs.column.lay_column_dg.Goals as goal

pub returns-then-apart : goal.returns-then-apart
returns-then-apart c = apart_same _ _ 64 _ _ _ (c.apart.ensures c.if-apart.true) (length-column_dg _ _ _ _) (omega arith)

pub returns : goal.returns
returns c = filled-dg _ _ _ (over _ _) _ _ _ c.lay_dg.ensures c.dl_place-dl.ensures c.link-comment.ensures
