-- The channel's bytes, then the bit, both as they stand in the record.
use mathlib.Core.Path.{◌∙◌}
use Rattle.base.specs.Blit.{part}
use Rattle.payload_laws.specs.Lists.{length_part}
use Rattle.cells.specs.CellLaws.{cell-bare, cell-kept, part_in, byte_in}
use Rattle.cells.specs.ShapeLaws.{sound-room}
use native.Mathlib.Omega.{arith}
use Rattle.cells.proofs.cell.cell_here.Goals as goal

pub overflow_add-q : goal.overflow_add-q
overflow_add-q c = let f = c.requires.0.fit in omega arith

pub copy_within-requires : goal.copy_within-requires
copy_within-requires c =
    let p = c.requires in
    let b = sound-room p.0 in
    let f = p.0.fit in
    (omega arith, omega arith)

pub overflow_add-i : goal.overflow_add-i
overflow_add-i c = let k = c.requires.0.kept (c.requires.4 ∙ c.if-keep.true) in omega arith

pub bounds-image-i : goal.bounds-image-i
bounds-image-i c = let k = c.requires.0.kept (c.requires.4 ∙ c.if-keep.true) in omega arith

pub bounds-out-to : goal.bounds-out-to
bounds-out-to c =
    let k = c.requires.0.wide (c.requires.4 ∙ c.if-keep.true) in
    omega arith

pub returns-then-keep : goal.returns-then-keep
returns-then-keep c w =
    let a = c.args in
    let p = c.requires in
    let s = a.image.now in
    let f = w.fit in
    let n = length_part a.q a.h.length s (omega arith) in
    let k = p.4 ∙ c.if-keep.true in
    rw (← p.3) (cell-kept w (part a.q a.h.length s) a.to _ _ k (omega arith)
    (c.copy_within.ensures ∙ rw (← p.3, part_in a.q a.h.length a.h.first a.h.bytes s f))
    (byte_in a.q a.h.length a.h.inval s (w.kept k)))

pub returns-else-keep : goal.returns-else-keep
returns-else-keep c w =
    let a = c.args in
    let p = c.requires in
    let s = a.image.now in
    cell-bare w (part a.q a.h.length s) a.to _ (p.4 ∙ c.if-keep.false)
    (c.copy_within.ensures ∙ rw (← p.3, part_in a.q a.h.length a.h.first a.h.bytes s w.fit))
