-- Each turn writes a column's zeros and blocks, then its zeros and SD.
use Rattle.std.proofs.Common.{◌≡◌, ◌<◌, ◌-◌, length, sym, refl, ◌∙◌, arith, rules}
use Rattle.writing.specs.Own.{Knows}
use Rattle.writing.specs.Data.{Kept}
use Rattle.writing.specs.DataLaws.{Writing, writing_begin, entry_ready, blocks-ordered, signal_ordered, writing_on, writing_end, kept-none}
use Rattle.writing.proofs.data.write_data.Goals as goal

pub loop-k-init : goal.loop-k-init
loop-k-init c = (writing_begin _ c.requires, kept-none _ _ _ _ _ c.forget.ensures, refl, refl, c.known_first-known.ensures)

pub entry_at-e-requires : goal.entry_at-e-requires
entry_at-e-requires c =
    let a = c.requires.columns in
    let b = c.requires.places in
    let h : c.loop-k.k < c.args.number = omega arith in
    (omega arith, omega arith)

pub known_of-known-requires : goal.known_of-known-requires
known_of-known-requires c = c.loop-k.invariant.4

pub slice_bounds-write_column-end : goal.slice_bounds-write_column-end
slice_bounds-write_column-end c = sym c.loop-k.invariant.2

pub write_column-p-requires : goal.write_column-p-requires
write_column-p-requires c =
    let t = c.loop-k.invariant in
    let h : c.loop-k.k < c.args.number = omega arith in
    let e = c.entry_at-e.ensures in
    (c.requires.tables, entry_ready _ c.requires h e, blocks-ordered t.0 h e, t.1, c.known_of-known.ensures.1)

pub write_signal_of-p-requires : goal.write_signal_of-p-requires
write_signal_of-p-requires c =
    let t = c.loop-k.invariant in
    let h : c.loop-k.k < c.args.number = omega arith in
    let e = c.entry_at-e.ensures in
    ((entry_ready _ c.requires h e).signal, signal_ordered t.0 h e c.write_column-p.ensures.1)

pub loop-k-preserved : goal.loop-k-preserved
loop-k-preserved c =
    let t = c.loop-k.invariant in
    let v = c.write_column-p.ensures in
    (writing_on t.0 (omega arith) c.entry_at-e.ensures v.1 c.write_signal_of-p.ensures, v.0, c.write_column-p.auto.pool ∙ t.2, c.write_column-p.auto.words ∙ t.3, c.known_of-known.ensures.0)

pub returns : goal.returns
returns c = writing_end c.loop-k.invariant.0 (omega arith)
