-- A column that is ready passes the tests; then its records come to stand.
use Rattle.data_blocks.specs.WrittenLaws.{is_fit, form_empty, form_formed, form_readable, form_written, written-unfit, written_full, written_outside}
use Rattle.std.specs.Prelude.{not}
use Rattle.std.proofs.Common.{ap}
use Rattle.data_blocks.proofs.column.write_blocks.Goals as goal

pub returns-then-not-fits_in : goal.returns-then-not-fits_in
returns-then-not-fits_in c =
    let a = c.args in
    written-unfit a.image.now a.size a.groups.now a.fragments.now a.c a.pool.now a.words.now a.out.now _ c.fits_in.ensures (ap not c.if-not-fits_in.true)

pub returns-then-f-eq0 : goal.returns-then-f-eq0
returns-then-f-eq0 c =
    let a = c.args in
    form_empty (c.form_of-f.ensures (is_fit _ c.fits_in.ensures (ap not c.if-not-fits_in.false))) a.groups.now a.fragments.now a.pool.now a.words.now a.out.now c.if-f-eq0.true

pub returns-then-not-has_room : goal.returns-then-not-has_room
returns-then-not-has_room c =
    let a = c.args in
    written_full (c.form_of-f.ensures (is_fit _ c.fits_in.ensures (ap not c.if-not-fits_in.false))) c.if-f-eq0.false a.groups.now a.fragments.now a.pool.now a.words.now a.out.now _ c.has_room.ensures (ap not c.if-not-has_room.true)

pub returns-in_default : goal.returns-in_default
returns-in_default c =
    let a = c.args in
    written_outside (c.form_of-f.ensures (is_fit _ c.fits_in.ensures (ap not c.if-not-fits_in.false))) c.if-f-eq0.false a.groups.now a.fragments.now a.pool.now a.words.now a.out.now c.total_of.ensures c.in_default.is

pub put_records-requires : goal.put_records-requires
put_records-requires c =
    let o = c.form_of-f.ensures (is_fit _ c.fits_in.ensures (ap not c.if-not-fits_in.false)) in
    let t = c.total_of.ensures in
    let k = c.in-Some.is in
    let r = c.has_room.ensures.yes (c.if-not-has_room.false) in
    (form_readable o c.if-f-eq0.false c.args.fragments.now t k, form_formed o c.if-f-eq0.false r, (t.yes _ k).1)

pub returns : goal.returns
returns c =
    let a = c.args in
    let o = c.form_of-f.ensures (is_fit _ c.fits_in.ensures (ap not c.if-not-fits_in.false)) in
    let r = c.has_room.ensures.yes (c.if-not-has_room.false) in
    form_written o c.if-f-eq0.false a.groups.now a.fragments.now a.pool.now a.words.now a.out.now (form_formed o c.if-f-eq0.false r) c.put_records.ensures
