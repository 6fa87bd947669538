-- Each number by its words; the DG is near.
use native.Mathlib.Omega.{arith}
use Rattle.thinning.specs.ColumnLaws.{set-is, cn_near, column-made}
use borrow.Author.Rules.{rules}
use Rattle.thinning.proofs.column.column_of.Goals as goal

pub overflow_add-cn : goal.overflow_add-cn
overflow_add-cn c = let b = c.requires.0.below _
    c.requires.1 in omega arith

pub overflow_add-cn-2 : goal.overflow_add-cn-2
overflow_add-cn-2 c = let b = c.requires.0.below _
    c.requires.1 in let e = cn_near 0 _
    c.cg_bytes.ensures in omega arith

pub returns : goal.returns
returns c = (
  column-made _ _ _ _ _ (set-is _)
      c.master_place-master.ensures
      c.cg_bytes.ensures
      c.by_word-sd.ensures
      c.link_at.ensures
      c.blocks_of-blocks.ensures c.photos_of-photos.ensures.0
      c.data_field-payload.ensures,
  record {
    dg = c.requires.0.below _
        c.requires.1;
    cn = cn_near _ _
        c.cg_bytes.ensures;
    photos = c.photos_of-photos.ensures.1;
  },
)
