use Prim.Native.Nat.{◌≤◌}
use lib.ListN.{length}
use Rattle.mdf.specs.Records.{most64}
use Rattle.joined.specs.SpotLaws.{spot_front}
use Rattle.window_cells.specs.CellLaws.{record_left, kept_is}
use native.Mathlib.Omega.{arith}
use Rattle.window_cells.proofs.cell.kept_at.Goals as goal

pub returns : goal.returns
returns c r q e =
    let a = c.args in
    let b = c.begin.ensures in
    let n = r.some in
    let l : length a.image.now ≤ most64 = omega (arith, c.well_formed) in
    let k = c.reach-k.ensures a.image.now l (rw b (spot_front _ _ r.ranges)) r.ranges (omega arith) in
    let m = record_left r a.offset e _ k.0 k.1 in
    let i = r.shaped.kept q in
    kept_is r a.offset e _ _ k.0 k.1 q (c.byte_at-x.ensures k.0.ranges (omega arith))
