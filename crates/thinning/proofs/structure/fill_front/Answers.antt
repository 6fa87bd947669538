-- The links, then the block's front.
use mathlib.Core.Path.{refl}
use native.Mathlib.Omega.{arith}
use Rattle.thinning.specs.StructureLaws.{filled-front}
use borrow.Author.Rules.{rules}
use Rattle.thinning.proofs.structure.fill_front.Goals as goal

pub overflow_add-links : goal.overflow_add-links
overflow_add-links c = let b = c.requires.photos in omega arith

pub returns : goal.returns
returns c = filled-front _ _ _ _ _ c.put_cn.ensures refl refl
    c.link-name.ensures
    c.link-source.ensures
    c.link-conversion.ensures
    c.link-unit.ensures c.link-comment.ensures
