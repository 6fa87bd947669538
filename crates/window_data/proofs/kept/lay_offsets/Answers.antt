-- Each turn lays one record; past the window it ends.
use lib.ListN.{length}
use mathlib.Core.Path.{◌≡◌, refl}
use Prim.Native.Nat.{◌+◌, ◌≤◌}
use Rattle.data_blocks.specs.FilledLaws.{if_usable, usable_in}
use Rattle.window_data.specs.RegionLaws.{block_in_lem}
use Rattle.window_data.specs.KeptLaws.{listed-none, listed_turn, listed-past}
use native.Mathlib.Omega.{arith}
use Rattle.std.specs.Prelude.{not}
use Rattle.std.proofs.Common.{ap}
use Rattle.window_data.proofs.kept.lay_offsets.Goals as goal

pub returns-then-all-count : goal.returns-then-all-count
returns-then-all-count c = let b = c.args in (omega arith, c.requires.3, listed-none b.a b.image.now b.fragments.now b.f b.words.now b.first b.count b.r b.w.now)

pub loop-at-init : goal.loop-at-init
loop-at-init c = let b = c.args in (omega arith, c.requires.3, refl, listed-none b.a b.image.now b.fragments.now b.f b.words.now b.first b.count b.r b.w.now)

pub start_of-requires : goal.start_of-requires
start_of-requires c = block_in_lem c.requires.1 _ (omega (arith, c.loop-at-test.true, c.min-n.ensures))

pub returns-then-is_past : goal.returns-then-is_past
returns-then-is_past c =
    let b = c.args in
    let v = c.loop-at.invariant in
    (c.requires.3, omega arith, listed-past b.a b.image.now b.fragments.now b.f b.words.now b.first b.count b.r c.loop-at.at b.w.now c.loop-at.w c.requires.1 (omega (arith, c.loop-at-test.true, c.min-n.ensures)) (rw (← c.start_of.ensures) (c.is_past.ensures c.if-is_past.true)) v.3)

pub bounds-words-first : goal.bounds-words-first
bounds-words-first c = omega (arith, c.loop-at-test.true, c.min-n.ensures)

pub returns-then-not-usable : goal.returns-then-not-usable
returns-then-not-usable c = let v = c.loop-at.invariant in (v.0, v.1, v.3)

pub lay_piece-requires : goal.lay_piece-requires
lay_piece-requires c =
    let p = c.requires in
    let u = if_usable _ c.usable.ensures (ap not c.if-not-usable.false) in
    (p.0, p.1, usable_in u p.2)

pub loop-at-preserved : goal.loop-at-preserved
loop-at-preserved c =
    let b = c.args in
    let v = c.loop-at.invariant in
    let n : b.first + b.count ≤ length b.words.now = omega arith in (
      omega (arith, v.0),
      omega (arith, c.loop-at-test.true, c.min-n.ensures),
      omega (arith, v.2, c.lay_piece.auto.w),
      listed_turn b.a b.image.now b.fragments.now b.f b.words.now b.first b.count b.r c.loop-at.at b.w.now c.loop-at.w c.requires.0.shaped n (omega (arith, c.loop-at-test.true, c.min-n.ensures)) v.3 c.lay_piece.ensures,
    )

pub returns : goal.returns
returns c =
    let v = c.loop-at.invariant in
    let e : c.loop-at.at ≡ c.min-n.result = omega (arith, c.loop-at.auto.at-end, c.loop-at-test.false) in
    (omega (arith, v.0, e), omega (arith, v.1, e), rw e at v.3)
