use native.Mathlib.Nat.{mod-lt}
use Rattle.data_blocks.specs.RegionLaws.{begin_room, lying_past, Piece, piece_of}
use Rattle.window_data.specs.RegionLaws.{block_in_lem, piecing_begin, piecing_few, piecing_turn, piecing_end, piecing_past, piece_block, piece_numbers}
use native.Mathlib.Omega.{arith}
use Rattle.window_data.proofs.piece.lay_piece.Goals as goal

pub loop-f-init : goal.loop-f-init
loop-f-init c = piecing_begin c.args.a c.args.t c.args.w.now c.requires.2

pub start_of-requires : goal.start_of-requires
start_of-requires c =
    let p = c.requires in
    let v = c.loop-f.invariant in
    block_in_lem p.1 _ (omega (arith, piecing_few v p.2, v.lying.some))

pub returns-then-is_past : goal.returns-then-is_past
returns-then-is_past c =
    let p = c.requires in
    let v = c.loop-f.invariant in
    piecing_past v p.2 p.1 (rw (← c.start_of.ensures) (c.is_past.ensures c.if-is_past.true))

pub lay_start-body-requires : goal.lay_start-body-requires
lay_start-body-requires c =
    let p = c.requires in
    let v = c.loop-f.invariant in
    block_in_lem p.1 _ (omega (arith, piecing_few v p.2, v.lying.some))

pub nonzero_rem-at : goal.nonzero_rem-at
nonzero_rem-at c =
    let p = c.requires in
    let v = c.loop-f.invariant in
    let r = begin_room p.1 c.loop-f.at (omega (arith, piecing_few v p.2, v.lying.some)) in
    omega (arith, r.0)

pub overflow_sub-f : goal.overflow_sub-f
overflow_sub-f c =
    let p = c.requires in
    let v = c.loop-f.invariant in
    let r = begin_room p.1 c.loop-f.at (omega (arith, piecing_few v p.2, v.lying.some)) in
    omega (arith, mod-lt c.loop-f.at r.0)

pub returns-then-c-left : goal.returns-then-c-left
returns-then-c-left c =
    let p = c.requires in
    let v = c.loop-f.invariant in
    let q : Piece c.args.f.per c.loop-f.at c.min-c.result c.loop-f.left = (let r = begin_room c.requires.1 c.loop-f.at (omega (arith, piecing_few c.loop-f.invariant c.requires.2, c.loop-f.invariant.lying.some)) in piece_of _ _ _ _ r.0 c.loop-f.invariant.lying.some c.min-c.ensures) in
    let b = c.lay_start-body.ensures in
    let n = piece_numbers v p.2 p.1 q b.0 in
    let y = piece_block _ _ _ _ p.1 _ _ _ _ q.some q.block (omega (arith, piecing_few v p.2, q.within)) b.0 b.1 (c.lay_stretch.ensures n.0 n.1 p.0 n.2) in
    piecing_end v p.2 c.min-c.result (omega (arith, q.within)) y c.if-c-left.true

pub overflow_add-at : goal.overflow_add-at
overflow_add-at c =
    let p = c.requires in
    let v = c.loop-f.invariant in
    let q : Piece c.args.f.per c.loop-f.at c.min-c.result c.loop-f.left = (let r = begin_room c.requires.1 c.loop-f.at (omega (arith, piecing_few c.loop-f.invariant c.requires.2, c.loop-f.invariant.lying.some)) in piece_of _ _ _ _ r.0 c.loop-f.invariant.lying.some c.min-c.ensures) in
    omega (arith, piecing_few v p.2, q.within)

pub overflow_mul-offset : goal.overflow_mul-offset
overflow_mul-offset c =
    let p = c.requires in
    let v = c.loop-f.invariant in
    let q : Piece c.args.f.per c.loop-f.at c.min-c.result c.loop-f.left = (let r = begin_room c.requires.1 c.loop-f.at (omega (arith, piecing_few c.loop-f.invariant c.requires.2, c.loop-f.invariant.lying.some)) in piece_of _ _ _ _ r.0 c.loop-f.invariant.lying.some c.min-c.ensures) in
    let y = lying_past c.min-c.result v.lying (omega (arith, q.within)) in
    omega (arith, y.within, p.0.small)

pub overflow_add-offset : goal.overflow_add-offset
overflow_add-offset c =
    let p = c.requires in
    let v = c.loop-f.invariant in
    let q : Piece c.args.f.per c.loop-f.at c.min-c.result c.loop-f.left = (let r = begin_room c.requires.1 c.loop-f.at (omega (arith, piecing_few c.loop-f.invariant c.requires.2, c.loop-f.invariant.lying.some)) in piece_of _ _ _ _ r.0 c.loop-f.invariant.lying.some c.min-c.ensures) in
    let y = lying_past c.min-c.result v.lying (omega (arith, q.within)) in
    omega (arith, y.within, p.0.small)

pub overflow_sub-left : goal.overflow_sub-left
overflow_sub-left c = let q : Piece c.args.f.per c.loop-f.at c.min-c.result c.loop-f.left = (let r = begin_room c.requires.1 c.loop-f.at (omega (arith, piecing_few c.loop-f.invariant c.requires.2, c.loop-f.invariant.lying.some)) in piece_of _ _ _ _ r.0 c.loop-f.invariant.lying.some c.min-c.ensures) in omega (arith, q.within)

pub loop-f-smaller : goal.loop-f-smaller
loop-f-smaller c = let q : Piece c.args.f.per c.loop-f.at c.min-c.result c.loop-f.left = (let r = begin_room c.requires.1 c.loop-f.at (omega (arith, piecing_few c.loop-f.invariant c.requires.2, c.loop-f.invariant.lying.some)) in piece_of _ _ _ _ r.0 c.loop-f.invariant.lying.some c.min-c.ensures) in omega (arith, q.some, q.within)

pub loop-f-preserved : goal.loop-f-preserved
loop-f-preserved c =
    let p = c.requires in
    let v = c.loop-f.invariant in
    let q : Piece c.args.f.per c.loop-f.at c.min-c.result c.loop-f.left = (let r = begin_room c.requires.1 c.loop-f.at (omega (arith, piecing_few c.loop-f.invariant c.requires.2, c.loop-f.invariant.lying.some)) in piece_of _ _ _ _ r.0 c.loop-f.invariant.lying.some c.min-c.ensures) in
    let b = c.lay_start-body.ensures in
    let n = piece_numbers v p.2 p.1 q b.0 in
    let y = piece_block _ _ _ _ p.1 _ _ _ _ q.some q.block (omega (arith, piecing_few v p.2, q.within)) b.0 b.1 (c.lay_stretch.ensures n.0 n.1 p.0 n.2) in
    piecing_turn v p.2 c.min-c.result (omega (arith, q.within)) y (omega (arith, q.within)) (omega (arith, c.lay_start-body.auto.w, c.lay_stretch.auto.w))
