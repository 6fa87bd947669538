-- Each number as the words give it.
use Rattle.writing.specs.WordLaws.{master_by, size_by}
use Rattle.writing.specs.ColumnLaws.{cn_near, column-made}
use Rattle.std.proofs.Common.{arith, rules}
use Rattle.writing.proofs.placed.column_near.Goals as goal

pub overflow_add-cn : goal.overflow_add-cn
overflow_add-cn c = omega (arith, c.requires.4)

pub overflow_add-cn-2 : goal.overflow_add-cn-2
overflow_add-cn-2 c = omega (arith, c.requires.4, cn_near 0 _ (size_by _ c.cg_bytes.ensures))

pub returns : goal.returns
returns c = (
  record { dg = c.requires.4; after = omega arith; cn = cn_near _ _ (size_by _ c.cg_bytes.ensures); photos = c.photos_of-references.ensures.1 },
  λ q. column-made _ _ _ _ _ _ _ _ (master_by _) (c.master_place-master.ensures q) (size_by _ c.cg_bytes.ensures) c.sd_link-sd.ensures c.blocks_of-blocks.ensures c.payload_of-payload.ensures c.stored_type-stored.ensures c.photos_of-references.ensures.0,
)
