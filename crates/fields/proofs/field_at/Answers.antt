-- Past the end there are only zeros, as the array has them.
use Rattle.std.proofs.Common.{arith, sym, take, drop, length, min, ◌≡◌, ◌<◌, ◌-◌, length-take, length-drop}
use Rattle.std.proofs.Math.Nat.{min-le_right}
use Rattle.base.specs.FieldLaws.{le-past}
use Rattle.fields.proofs.Bytes.{field_of, padded-past, padded-end, le-small}
use Rattle.fields.proofs.field_at.Goals as goal

pub returns-then-n-at : goal.returns-then-n-at
returns-then-n-at g c =
    let w = min g.row.N 8 in
    let z = le-past w c.args.s.now c.args.at c.if-n-at.true in
    record { is = sym z; small = rw z at (le-small w c.args.s.now c.args.at (λ i. omega (arith, c.type_inv.s i))) }

pub returns : goal.returns
returns g c =
    let s = c.args.s.now in
    let w = min g.row.N 8 in
    let n = length s - c.args.at in
    let xs = c.copy_from_slice.new.self in
    let is : xs ≡ take n (drop c.args.at s) = c.copy_from_slice.ensures.after in
    let l : length xs ≡ n = rw is (simp (length-take, length-drop) (omega arith)) in
    let h : n < w = omega arith in
    field_of w _ s c.args.at _ (min-le_right g.row.N 8) (λ i. omega (arith, c.type_inv.s i)) (λ i k. padded-end n s xs c.args.at is l (omega arith) i)
    (λ i k. padded-past n s xs c.args.at is l i (omega arith)) c.from_le_bytes.ensures
