-- The N bytes stand in front of zeros.
use Rattle.std.proofs.Common.{arith, take, drop, length, ◌≡◌, ◌+◌, ◌-◌, length-take, length-drop}
use Rattle.fields.proofs.Bytes.{field_of, padded_in, padded-past}
use Rattle.records.proofs.table.field_in.Goals as goal

pub returns : goal.returns
returns g c =
    let xs = c.copy_from_slice.new.self in
    let n : c.args.p + g.row.N - c.args.p ≡ g.row.N = omega arith in
    let is : xs ≡ take g.row.N (drop c.args.p c.args.s.now) = rw n at c.copy_from_slice.ensures.after in
    let l : length xs ≡ g.row.N = rw is (simp (length-take, length-drop) (omega (arith, c.requires.inside))) in
    field_of g.row.N _ c.args.s.now c.args.p _ c.requires.width (λ i. omega (arith, c.type_inv.s i)) (padded_in g.row.N c.args.s.now xs c.args.p is l)
    (padded-past g.row.N c.args.s.now xs c.args.p is l) c.from_le_bytes.ensures
