-- The counts and three fields, one after the other.
use Rattle.std.proofs.Common.{arith, length-append}
use Rattle.base.specs.FieldLaws.{length-le}
use mir.Val.{bool_byte}
use Rattle.std.specs.Prelude.{ℕ, Bool, true, false, ◌≡◌}
use Rattle.result.specs.Fill.{one}
use Rattle.filling.specs.Blocks.{cg_data_from}
use Rattle.filling.specs.BlocksLaws.{blit-next}
use Rattle.filling.proofs.put_cg_data.Goals as goal

bit : (b : Bool) {r : ℕ} → r ≡ bool_byte b → r ≡ one b
bit true e = e
bit false e = e

pub returns : goal.returns
unfolding cg_data_from
returns c =
    let l = c.put_cg_counts-p.ensures
    in
    let a = blit-next _ _ _ _ _ _ _ l.is
    c.put_u32.ensures l.past in
    let b = blit-next _ _ _ _ _ _ _ a c.put_u32-2.ensures (simp
    (length-append, length-le) (omega (arith, l.past))) in
    blit-next _ _ _ _ _ _ _ b (rw (bit c.args.inval c.from.ensures) at c.put_u32-3.ensures) (simp
    (length-append, length-le) (omega (arith, l.past)))
