-- The bytes stand in front of zeros.
use Rattle.std.proofs.Common.{arith, take, drop, length, ◌≡◌, ◌≤◌, ◌+◌, ◌-◌, length-take, length-drop}
use Rattle.std.proofs.Math.Nat.{min-le_right}
use Rattle.fields.proofs.Bytes.{field_of, padded_in, padded-past}
use Rattle.fields.proofs.field_in.Goals as goal

pub returns : goal.returns
returns g c =
    let s = c.args.s.now in
    let p = c.args.p in
    let w = c.min-width.result in
    let xs = c.copy_from_slice.new.self in
    let n : p + w - p ≡ w = omega arith in
    let is : xs ≡ take w (drop p s) = rw n at c.copy_from_slice.ensures.after in
    let l : length xs ≡ w = rw is (simp (length-take, length-drop) (omega (arith, c.requires, c.min-width.ensures))) in
    let most : w ≤ 8 = omega (arith, c.min-width.ensures, min-le_right g.row.N 8) in
    rw (← c.min-width.ensures)
    (field_of w _ s p _ most (λ i. omega (arith, c.type_inv.s i)) (padded_in w s xs p is l) (padded-past w s xs p is l) c.from_le_bytes.ensures)
