-- Each turn puts the records of one block: the header, where the first begins it, then their cells.
use native.Mathlib.Nat.{mod-lt}
use Rattle.data_blocks.specs.RegionLaws.{piecing_begin, piecing_few, piecing_turn, piecing_end, piece_block, begin_room, lying_past, Piece, piece_of, piece_ready}
use native.Mathlib.Omega.{arith}
use Rattle.data_blocks.proofs.piece.put_piece.Goals as goal

pub loop-left-init : goal.loop-left-init
loop-left-init c =
    let p = c.requires in
    (piecing_begin c.args.t c.args.out.now p.3, p.2)

pub begin_block-body-requires : goal.begin_block-body-requires
begin_block-body-requires c =
    let p = c.requires in
    let v = c.loop-left.invariant.0 in
    let r = begin_room p.1 c.loop-left.at (omega (arith, piecing_few v p.3, v.lying.some)) in
    (r.0, r.1, omega (arith, r.2, v.same))

pub nonzero_rem-at : goal.nonzero_rem-at
nonzero_rem-at c =
    let p = c.requires in
    let v = c.loop-left.invariant.0 in
    let r = begin_room p.1 c.loop-left.at (omega (arith, piecing_few v p.3, v.lying.some)) in
    omega (arith, r.0)

pub overflow_sub-f : goal.overflow_sub-f
overflow_sub-f c =
    let p = c.requires in
    let v = c.loop-left.invariant.0 in
    let r = begin_room p.1 c.loop-left.at (omega (arith, piecing_few v p.3, v.lying.some)) in
    omega (arith, mod-lt c.loop-left.at r.0)

pub returns-then-c-left : goal.returns-then-c-left
returns-then-c-left c =
    let p = c.requires in
    let v = c.loop-left.invariant.0 in
    let q : Piece c.args.f.per c.loop-left.at c.min-c.result c.loop-left.left = (let r = begin_room c.requires.1 c.loop-left.at (omega (arith, piecing_few c.loop-left.invariant.0 c.requires.3, c.loop-left.invariant.0.lying.some)) in piece_of _ _ _ _ r.0 c.loop-left.invariant.0.lying.some c.min-c.ensures) in
    let b = c.begin_block-body.ensures in
    let g = piece_ready v p.3 p.1 q b.0 b.1 in
    let r = c.put_stretch-k.ensures p.0 c.loop-left.invariant.1 g.0 g.1 in
    (r.0, piecing_end v p.3 c.min-c.result (omega (arith, q.within)) (piece_block _ _ _ p.1 _ _ _ _ q.some q.block (omega (arith, piecing_few v p.3, q.within)) b.0 b.1 r.1) c.if-c-left.true)

pub overflow_add-at : goal.overflow_add-at
overflow_add-at c =
    let p = c.requires in
    let q : Piece c.args.f.per c.loop-left.at c.min-c.result c.loop-left.left = (let r = begin_room c.requires.1 c.loop-left.at (omega (arith, piecing_few c.loop-left.invariant.0 c.requires.3, c.loop-left.invariant.0.lying.some)) in piece_of _ _ _ _ r.0 c.loop-left.invariant.0.lying.some c.min-c.ensures) in
    omega (arith, piecing_few c.loop-left.invariant.0 p.3, q.within)

pub overflow_mul-offset : goal.overflow_mul-offset
overflow_mul-offset c =
    let p = c.requires in
    let q : Piece c.args.f.per c.loop-left.at c.min-c.result c.loop-left.left = (let r = begin_room c.requires.1 c.loop-left.at (omega (arith, piecing_few c.loop-left.invariant.0 c.requires.3, c.loop-left.invariant.0.lying.some)) in piece_of _ _ _ _ r.0 c.loop-left.invariant.0.lying.some c.min-c.ensures) in
    let y = lying_past c.min-c.result c.loop-left.invariant.0.lying (omega (arith, q.within)) in
    omega (arith, y.within, p.0.small)

pub overflow_add-offset : goal.overflow_add-offset
overflow_add-offset c =
    let p = c.requires in
    let q : Piece c.args.f.per c.loop-left.at c.min-c.result c.loop-left.left = (let r = begin_room c.requires.1 c.loop-left.at (omega (arith, piecing_few c.loop-left.invariant.0 c.requires.3, c.loop-left.invariant.0.lying.some)) in piece_of _ _ _ _ r.0 c.loop-left.invariant.0.lying.some c.min-c.ensures) in
    let y = lying_past c.min-c.result c.loop-left.invariant.0.lying (omega (arith, q.within)) in
    omega (arith, y.within, p.0.small)

pub overflow_sub-left : goal.overflow_sub-left
overflow_sub-left c = let q : Piece c.args.f.per c.loop-left.at c.min-c.result c.loop-left.left = (let r = begin_room c.requires.1 c.loop-left.at (omega (arith, piecing_few c.loop-left.invariant.0 c.requires.3, c.loop-left.invariant.0.lying.some)) in piece_of _ _ _ _ r.0 c.loop-left.invariant.0.lying.some c.min-c.ensures) in omega (arith, q.within)

pub loop-left-smaller : goal.loop-left-smaller
loop-left-smaller c = let q : Piece c.args.f.per c.loop-left.at c.min-c.result c.loop-left.left = (let r = begin_room c.requires.1 c.loop-left.at (omega (arith, piecing_few c.loop-left.invariant.0 c.requires.3, c.loop-left.invariant.0.lying.some)) in piece_of _ _ _ _ r.0 c.loop-left.invariant.0.lying.some c.min-c.ensures) in omega (arith, q.some, q.within)

pub loop-left-preserved : goal.loop-left-preserved
loop-left-preserved c =
    let p = c.requires in
    let v = c.loop-left.invariant.0 in
    let q : Piece c.args.f.per c.loop-left.at c.min-c.result c.loop-left.left = (let r = begin_room c.requires.1 c.loop-left.at (omega (arith, piecing_few c.loop-left.invariant.0 c.requires.3, c.loop-left.invariant.0.lying.some)) in piece_of _ _ _ _ r.0 c.loop-left.invariant.0.lying.some c.min-c.ensures) in
    let b = c.begin_block-body.ensures in
    let g = piece_ready v p.3 p.1 q b.0 b.1 in
    let r = c.put_stretch-k.ensures p.0 c.loop-left.invariant.1 g.0 g.1 in (
      piecing_turn v p.3 c.min-c.result (omega (arith, q.within)) (piece_block _ _ _ p.1 _ _ _ _ q.some q.block (omega (arith, piecing_few v p.3, q.within)) b.0 b.1 r.1) (omega (arith, q.within))
          (omega (arith, c.begin_block-body.auto.out, c.put_stretch-k.auto.out)),
      r.0,
    )
