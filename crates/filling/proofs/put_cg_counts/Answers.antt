-- Fields, one after the other, and the part that is kept.
use Rattle.std.proofs.Common.{arith, length-append}
use Rattle.base.specs.FieldLaws.{length-le}
use Rattle.filling.specs.Blocks.{cg_counts}
use Rattle.filling.specs.BlocksLaws.{blit-next, laid_next}
use Rattle.filling.proofs.put_cg_counts.Goals as goal

pub returns : goal.returns
unfolding cg_counts
returns c =
    let a = blit-next _ _ _ _ _ _ _
    c.put_u64.ensures
    c.put_u64-2.ensures (simp
    length-le) in
    let b = blit-next _ _ _ _ _ _ _ a (rw c.cg_flags.ensures at
    c.put_u16.ensures) (simp (length-append, length-le)) in
    laid_next _ _ _ _ _ _ _ _ _ _ b c.put_data.ensures (simp (length-append, length-le)) (omega arith)
