-- Each turn passes a fragment that lies in the image.
use mathlib.Core.Path.{refl}
use Rattle.data_blocks.specs.FilledLaws.{totalling_begin, totalling_end, totalling_turn, totalling_out, totalling_over}
use native.Mathlib.Omega.{arith}
use Rattle.data_blocks.proofs.total.total_of.Goals as goal
use Rattle.data_blocks.proofs.total.total_of.Goals.{then-size-offset-via-then-size-offset, then-size-offset-via-else-size-offset+then-size-offset-2}

pub loop-i-init : goal.loop-i-init
loop-i-init c = (totalling_begin c.args.image.now c.args.fragments.now, refl, refl, omega arith)

pub returns-then-size-offset : goal.returns-then-size-offset
returns-then-size-offset c =
    let v = c.loop-i.invariant in
    totalling_out v.0 (omega (arith, v.1, v.0.within)) (elim c.then-size-offset.branch [
      | then-size-offset-via-then-size-offset w ↦ omega (arith, v.2, w.if-size-offset.true)
      | then-size-offset-via-else-size-offset+then-size-offset-2 w ↦ omega (arith, v.2, w.if-size-offset-2.true)
    ]) refl

pub returns-in_err-bytes : goal.returns-in_err-bytes
returns-in_err-bytes c =
    let v = c.loop-i.invariant in
    let f = rw c.in_err-bytes.was at c.checked_add.ensures in
    rw c.from_residual.ensures (totalling_over v.0 (omega (arith, v.1, v.0.within)) (omega (arith, f)) refl)

pub loop-i-preserved : goal.loop-i-preserved
loop-i-preserved c =
    let v = c.loop-i.invariant in
    let f = rw c.in_ok-bytes.was at c.checked_add.ensures in
    (totalling_turn v.0 (omega (arith, v.1, v.0.within)) (omega (arith, v.2)) f.1, v.1, v.2, omega (arith, f.0, f.1))

pub returns : goal.returns
returns c = let v = c.loop-i.invariant in totalling_end v.0 (omega (arith, v.1, v.0.within)) (omega (arith, v.3)) refl
