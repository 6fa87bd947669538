-- Apart from the window there is nothing to do; else the links are those of the column's CN.
use mathlib.Core.Path.{refl}
use Rattle.stores.specs.Over.{over}
use Rattle.window_blocks.specs.ApartLaws.{apart_same}
use Rattle.writing.specs.StructureLaws.{length_front, filled-front}
use native.Mathlib.Omega.{arith}
use Rattle.window_structure.proofs.column.lay_front.Goals as goal

pub returns-then-apart : goal.returns-then-apart
returns-then-apart c = apart_same _ _ 88 _ _ _ (c.apart.ensures c.if-apart.true) (length_front _ _ _) (omega arith)

pub overflow_mul-h : goal.overflow_mul-h
overflow_mul-h c = omega (arith, c.requires.photos)

pub overflow_add-h : goal.overflow_add-h
overflow_add-h c = omega (arith, c.requires.photos)

pub overflow_add-h-2 : goal.overflow_add-h-2
overflow_add-h-2 c = omega (arith, c.requires.photos)

pub returns : goal.returns
returns c = filled-front _ _ _ (over _ _) _ _ c.lay_cn.ensures refl refl c.link-name.ensures c.link-source.ensures c.link-conversion.ensures c.link-unit.ensures c.link-comment.ensures
