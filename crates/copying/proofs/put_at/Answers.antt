-- Header, the link to the next AT, the other links and the data, one after the other.
use native.Mathlib.Nat.{min-le_left}
use Prim.Native.Nat.{◌-◌}
use Rattle.copying.specs.CopyingLaws.{at-laid}
use native.Mathlib.Omega.{arith}
use lib.ListN.{length}
use Rattle.copying.proofs.put_at.Goals as goal

pub overflow_add-n : goal.overflow_add-n
overflow_add-n c = omega (
  arith,
  c.header_size-n.ensures,
  min-le_left 24
      (length
      c.args.copies.image.now
      - c.args.a),
)

pub put_links-requires : goal.put_links-requires
put_links-requires c = omega (
  arith,
  c.header_size-n.ensures,
  min-le_left 24
      (length
      c.args.copies.image.now
      - c.args.a),
)

pub overflow_add-n-2 : goal.overflow_add-n-2
overflow_add-n-2 c = omega (
  arith,
  c.header_size-n.ensures,
  min-le_left 24 (length
      c.args.copies.image.now
      - c.args.a),
)

pub returns : goal.returns
returns c = λ t. at-laid _ _ _ _ _
    c.header_size-n.ensures
    c.more_links-links.ensures
    c.copy.ensures
    c.put_u64.ensures
    (c.put_links.ensures t) c.put_data.ensures
