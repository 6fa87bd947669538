-- None, all, or those past the first.
use Prim.Native.Nat.{◌-◌}
use mathlib.Core.Path.{refl}
use Rattle.data_blocks.specs.RegionLaws.{lying_past}
use Rattle.data_blocks.specs.FilledLaws.{past_in_lem, rest-none, rest_all, rest_part}
use native.Mathlib.Omega.{arith}
use Rattle.data_blocks.proofs.by.put_rest.Goals as goal

pub overflow_add-t : goal.overflow_add-t
overflow_add-t c = omega (arith, c.requires.3.few)

pub returns-then-t-a : goal.returns-then-t-a
returns-then-t-a c =
    let a = c.args in
    (c.requires.2, rest-none a.image.now a.fragments.now a.f a.t a.a c.if-t-a.true)

pub put_piece-requires : goal.put_piece-requires
put_piece-requires c = c.requires

pub returns-then-a-t : goal.returns-then-a-t
returns-then-a-t c =
    let a = c.args in
    let r = c.put_piece.ensures in
    (r.0, rest_all a.image.now a.fragments.now a.f a.t a.a c.if-a-t.true r.1)

pub past-requires : goal.past-requires
past-requires c =
    let p = c.requires in
    let a = c.args in
    let y = lying_past (a.a - a.t.number) p.3.lying (omega arith) in
    (omega arith, omega (arith, p.3.few), omega (arith, y.within, p.0.small))

pub put_piece-requires-2 : goal.put_piece-requires-2
put_piece-requires-2 c =
    let p = c.requires in
    let a = c.args in
    (p.0, p.1, p.2, rw c.past.ensures (past_in_lem (a.a - a.t.number) p.3 (omega arith)))

pub returns : goal.returns
returns c =
    let a = c.args in
    let r = c.put_piece-2.ensures in (
      r.0,
      rest_part a.image.now a.fragments.now a.f a.t a.a (a.a - a.t.number) refl (omega arith) (omega arith)
          (rw c.past.ensures at r.1),
    )
