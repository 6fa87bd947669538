-- Type, the kept parts and the byte offset 0, one after the other.
use Rattle.std.proofs.Common.{arith, length-append}
use Rattle.base.specs.FieldLaws.{length-le}
use Rattle.filling.specs.Blocks.{cn_types}
use Rattle.filling.specs.BlocksLaws.{blit-next, laid_next}
use Rattle.filling.proofs.put_cn_types.Goals as goal

pub returns : goal.returns
unfolding cn_types
returns c =
    let l = c.put_data-p.ensures in
    let a = blit-next _ _ _ _ _ _ _
    c.put_u8.ensures
    l.is (simp length-le) in
    let b = blit-next _ _ _ _ _ _ _ a c.put_u32.ensures (simp (
      length-append,
      length-le,
    ) (omega (arith, l.past))) in
    laid_next _ _ _ _ _ _ _ _ _ _ b c.put_data.ensures (simp (length-append, length-le) (omega (
      arith,
      l.past,
    ))) (omega (arith, l.small))
