-- The words so far are zero and the others as they were.
use Prim.Native.Nat.{◌+◌, ◌*◌, ◌/◌}
use mathlib.Core.Path.{◌≡◌, refl}
use lib.ListN.{length}
use native.Mathlib.Omega.{arith}
use Rattle.reading.specs.ClearLaws.{filled_eight}
use Rattle.reading.proofs.recording.clear.Goals as goal

pub loop-n-init : goal.loop-n-init
loop-n-init c = record { least = omega arith; same = refl; is = refl }

pub loop-n-preserved : goal.loop-n-preserved
loop-n-preserved c =
    let e : 8 * (c.loop-n.n + 1) ≡ 8 * c.loop-n.n + 8 = omega arith in
    rw (c.clear_eight.ensures, e) (filled_eight c.loop-n.invariant (omega arith))

pub returns : goal.returns
returns c =
    let e : 8 * c.loop-n.n ≡ 8 * (length c.args.words.now / 8) = omega arith in
    c.clear_from.ensures _ (rw e at c.loop-n.invariant)
