-- Each turn puts the records of one block: the header, where the first begins it, then their cells.
use mathlib.Core.Path.{refl}
use Prim.Native.Nat.{◌+◌, ◌-◌}
use native.Mathlib.Nat.{mod-lt}
use Rattle.joined.specs.SpotLaws.{spot_front}
use Rattle.data_blocks.specs.RegionLaws.{begin_room, piece_room, Piece, piece_of, piece_block}
use Rattle.data_blocks.specs.ListedLaws.{listing_begin, listing_turn, listing_end, listed_stop}
use native.Mathlib.Omega.{arith}
use Rattle.data_blocks.proofs.listed.listed.Goals as goal

pub loop-at-init : goal.loop-at-init
loop-at-init c = let a = c.args in listing_begin a.f a.words.now a.first a.a a.out.now c.requires.4 (rw c.begin-k.ensures (spot_front _ _ c.requires.0.ranges))

pub begin_block-body-requires : goal.begin_block-body-requires
begin_block-body-requires c =
    let r = begin_room c.requires.1 c.loop-at.at (omega (arith, c.requires.5)) in
    (r.0, r.1, omega (arith, r.2, c.loop-at.invariant.same))

pub nonzero_rem-at : goal.nonzero_rem-at
nonzero_rem-at c =
    let r = begin_room c.requires.1 c.loop-at.at (omega (arith, c.requires.5)) in
    omega (arith, r.0)

pub overflow_sub-f : goal.overflow_sub-f
overflow_sub-f c =
    let r = begin_room c.requires.1 c.loop-at.at (omega (arith, c.requires.5)) in
    omega (arith, mod-lt c.loop-at.at r.0)

pub overflow_add-from : goal.overflow_add-from
overflow_add-from c = omega (arith, c.requires.3, c.well_formed.1)

pub overflow_add-result : goal.overflow_add-result
overflow_add-result c = let q : Piece c.args.f.per c.loop-at.at c.min-c.result (c.args.n - c.loop-at.at) = (let r = begin_room c.requires.1 c.loop-at.at (omega (arith, c.requires.5)) in piece_of _ _ _ _ r.0 (omega arith) c.min-c.ensures) in omega (arith, q.within, c.put_gathered-r.ensures.0, c.ranges.n)

pub shape_of-out-then-r-c : goal.shape_of-out-then-r-c
shape_of-out-then-r-c c = omega (arith, c.begin_block-body.auto.out, c.put_gathered-r.auto.out, c.loop-at.invariant.same)

pub returns-then-r-c : goal.returns-then-r-c
returns-then-r-c c =
    let p = c.requires in
    let a = c.args in
    let v = c.loop-at.invariant in
    let q : Piece c.args.f.per c.loop-at.at c.min-c.result (c.args.n - c.loop-at.at) = (let r = begin_room c.requires.1 c.loop-at.at (omega (arith, c.requires.5)) in piece_of _ _ _ _ r.0 (omega arith) c.min-c.ensures) in
    let x = piece_room p.1 c.loop-at.at c.min-c.result q.some q.block (omega (arith, q.within, p.5)) in
    let r = c.put_gathered-r.ensures.1 p.0 v.spot p.2 (omega (arith, q.within, p.3))
    (omega (arith, x, c.begin_block-body.ensures.0, v.same, c.begin_block-body.auto)) in (
      omega (arith, v.number),
      omega (arith, q.within),
      listed_stop _ _ _ a.words.now a.first a.n a.a _ (c.loop-at.at + c.put_gathered-r.result.count) p.0.shaped p.0.ranges p.2
          (omega (arith, q.within)) (omega arith) (r.stop c.if-r-c.true),
    )

pub overflow_add-at : goal.overflow_add-at
overflow_add-at c = let q : Piece c.args.f.per c.loop-at.at c.min-c.result (c.args.n - c.loop-at.at) = (let r = begin_room c.requires.1 c.loop-at.at (omega (arith, c.requires.5)) in piece_of _ _ _ _ r.0 (omega arith) c.min-c.ensures) in omega (arith, q.within, c.put_gathered-r.ensures.0, c.ranges.n)

pub loop-at-smaller : goal.loop-at-smaller
loop-at-smaller c = let q : Piece c.args.f.per c.loop-at.at c.min-c.result (c.args.n - c.loop-at.at) = (let r = begin_room c.requires.1 c.loop-at.at (omega (arith, c.requires.5)) in piece_of _ _ _ _ r.0 (omega arith) c.min-c.ensures) in omega (arith, q.some, q.within, c.put_gathered-r.ensures.0)

pub loop-at-preserved : goal.loop-at-preserved
loop-at-preserved c =
    let p = c.requires in
    let v = c.loop-at.invariant in
    let q : Piece c.args.f.per c.loop-at.at c.min-c.result (c.args.n - c.loop-at.at) = (let r = begin_room c.requires.1 c.loop-at.at (omega (arith, c.requires.5)) in piece_of _ _ _ _ r.0 (omega arith) c.min-c.ensures) in
    let b = c.begin_block-body.ensures in
    let x = piece_room p.1 c.loop-at.at c.min-c.result q.some q.block (omega (arith, q.within, p.5)) in
    let r = c.put_gathered-r.ensures.1 p.0 v.spot p.2 (omega (arith, q.within, p.3))
    (omega (arith, x, c.begin_block-body.ensures.0, v.same, c.begin_block-body.auto)) in
    let n = c.put_gathered-r.ensures.0 in
    listing_turn v p.3 c.put_gathered-r.result.count (omega (arith, q.within, n))
    (piece_block _ _ _ p.1 _ _ _ _ (omega (arith, q.some)) (omega (arith, q.block, n)) (omega (arith, q.within, n, p.5)) b.0 b.1 r.bytes)
    r.spot (omega (arith, c.begin_block-body.auto.out, c.put_gathered-r.auto.out)) refl

pub returns : goal.returns
returns c = let v = c.loop-at.invariant in (omega (arith, v.number), v.few, listing_end v c.requires.3 c.requires.0.shaped)
