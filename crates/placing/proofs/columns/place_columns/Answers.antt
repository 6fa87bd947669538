-- What is left of the columns, laid over the words, gives the words at exit.
use mathlib.Core.Path.{◌≡◌}
use Prim.Native.Nat.{◌+◌, ◌-◌, ◌*◌}
use native.Mathlib.Omega.{arith}
use Rattle.placing.specs.InWordsLaws.{first_by, sd_by, place_begin, place_ends, place_words_lem, place_within, place_first, place_data, place_sd, place_room, place_next}
use Rattle.placing.proofs.columns.place_columns.Goals as goal

pub loop-k-init : goal.loop-k-init
loop-k-init c = place_begin _ _ _ _ _ _ _ _ _ _ c.requires.0 c.requires.1 c.requires.2 c.requires.3 c.requires.4 c.requires.5 c.requires.6

pub first_past-first-requires : goal.first_past-first-requires
first_past-first-requires c = (c.loop-k.invariant.least, c.loop-k.invariant.most, omega (arith, c.loop-k.invariant.near_data))

pub blocks_end-end-requires : goal.blocks_end-end-requires
blocks_end-end-requires c =
    let b = place_within c.loop-k.invariant (omega arith) in
    let x = place_first c.loop-k.invariant (omega arith) (first_by _ _ _ _ _ _ c.blocks_at.ensures c.first_past-first.ensures) in
    (omega arith, omega (arith, c.loop-k.invariant.near_data, x), b.blocks, b.payload)

pub first_past-sd-requires : goal.first_past-sd-requires
first_past-sd-requires c =
    let x = place_data c.loop-k.invariant (omega arith) (first_by _ _ _ _ _ _ c.blocks_at.ensures c.first_past-first.ensures) c.blocks_end-end.ensures in
    (c.loop-k.invariant.least, c.loop-k.invariant.most, omega (arith, c.loop-k.invariant.near_data, x))

pub structure_at-dg-requires : goal.structure_at-dg-requires
structure_at-dg-requires c = (omega arith, (place_within c.loop-k.invariant (omega arith)).blocks)

pub overflow_add-dg : goal.overflow_add-dg
overflow_add-dg c = let x = place_room c.loop-k.invariant (omega arith) c.structure_at-dg.ensures in omega arith

pub signal_end-past-requires : goal.signal_end-past-requires
signal_end-past-requires c =
    let b = place_within c.loop-k.invariant (omega arith) in
    let x = place_sd c.loop-k.invariant (omega arith) (first_by _ _ _ _ _ _ c.blocks_at.ensures c.first_past-first.ensures) c.blocks_end-end.ensures
    (sd_by _ _ _ _ c.word.ensures c.first_past-sd.ensures) in
    (omega arith, omega (arith, c.loop-k.invariant.near_data, x), b.signal)

pub loop-k-preserved : goal.loop-k-preserved
loop-k-preserved c =
    let e : 8 * (c.loop-k.k + 1) ≡ 8 * c.loop-k.k + 8 = omega arith in
    let f : 6656 + 3 * (c.loop-k.k + 1) ≡ 6656 + 3 * c.loop-k.k + 3 = omega arith in
    let g : c.args.c.n - (c.loop-k.k + 1) ≡ c.args.c.n - c.loop-k.k - 1 = omega arith in
    rw (e, f, g) (place_next c.loop-k.invariant (omega arith) (first_by _ _ _ _ _ _ c.blocks_at.ensures c.first_past-first.ensures)
    c.blocks_end-end.ensures (sd_by _ _ _ _ c.word.ensures c.first_past-sd.ensures) c.structure_at-dg.ensures c.put_place.ensures c.signal_end-past.ensures)

pub returns : goal.returns
returns c = record { end = place_ends c.loop-k.invariant (omega arith); words = place_words_lem c.loop-k.invariant (omega arith) }
