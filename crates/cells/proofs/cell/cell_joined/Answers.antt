-- The channel's bytes, then the bit, both by their place in the joined data.
use mathlib.Core.Path.{sym, ◌∙◌}
use lib.ListN.{take}
use lib.Seq.{length-take-le, get_or-take}
use Rattle.mdf.specs.Records.{joined}
use Rattle.payload_laws.specs.SortedLaws.{joined_length}
use Rattle.joined.specs.Ahead.{ahead}
use Rattle.cells.specs.CellLaws.{cell-bare, cell-kept, bytes-joined}
use Rattle.cells.specs.ShapeLaws.{sound-room}
use native.Mathlib.Omega.{arith}
use Rattle.cells.proofs.cell.cell_joined.Goals as goal

pub overflow_add-out : goal.overflow_add-out
overflow_add-out c = omega (arith, sound-room c.requires.0)

pub bounds-out-to : goal.bounds-out-to
bounds-out-to c = let k = c.requires.0.wide c.if-h.true in omega arith

pub returns-then-h : goal.returns-then-h
returns-then-h c w r l =
    let a = c.args in
    let p = c.requires in
    let s = a.image.now in
    let fs = ahead a.fragments.now a.k in
    let f = w.fit in
    let v = w.kept c.if-h.true in
    let n = length-take-le a.h.length (joined s fs) (rw (joined_length s fs r) l) in
    cell-kept w (take a.h.length (joined s fs)) a.to _ _ c.if-h.true (omega arith)
    (bytes-joined w a.fragments.now a.k c.skip-a.result a.to a.out.now r l p.1
    (c.skip-a.ensures s (omega arith) r (omega arith)) c.copy_joined.ensures)
    (c.byte_at-x.ensures r (omega arith) ∙ sym (get_or-take a.h.length (joined s fs) a.h.inval 0 v))

pub returns-else-h : goal.returns-else-h
returns-else-h c w r l =
    let a = c.args in
    let p = c.requires in
    let s = a.image.now in
    let f = w.fit in
    cell-bare w (take a.h.length (joined s (ahead a.fragments.now a.k))) a.to _ c.if-h.false
    (bytes-joined w a.fragments.now a.k c.skip-a.result a.to a.out.now r l p.1
    (c.skip-a.ensures s (omega arith) r (omega arith)) c.copy_joined.ensures)
