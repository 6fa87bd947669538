-- Flags, zeros and the kept parts, one after the other.
use Rattle.std.proofs.Common.{arith, length-append}
use Rattle.base.specs.FieldLaws.{length-le}
use Rattle.filling.specs.Blocks.{cn_rest}
use Rattle.filling.specs.BlocksLaws.{blit-next}
use Rattle.filling.proofs.put_cn_rest.Goals as goal

pub returns : goal.returns
unfolding cn_rest
returns c =
    let l = c.put_data-p.ensures in
    let a = blit-next _ _ _ _ _ _ _ (rw
    c.cn_flags.ensures
    at c.put_u32.ensures)
    c.put_u32-2.ensures
    (simp length-le) in
    let b = blit-next _ _ _ _ _ _ _ a l.is (simp (length-append, length-le)) in
    let e = blit-next _ _ _ _ _ _ _ b c.put_u16.ensures (simp (
      length-append,
      length-le,
    ) (omega (arith, l.past))) in
    blit-next _ _ _ _ _ _ _ e c.put_data.ensures.is (simp (length-append, length-le) (omega (
      arith,
      l.past,
    )))
