-- A column that is ready passes the tests; then its records are laid.
use Rattle.data_blocks.specs.WrittenLaws.{is_fit, form_formed, form_readable}
use Rattle.window_data.specs.BlocksLaws.{laid-unfit, laid_empty, laid_full, laid_outside, laid-blocks}
use Rattle.std.specs.Prelude.{not}
use Rattle.std.proofs.Common.{ap}
use Rattle.window_data.proofs.column.lay_blocks.Goals as goal

pub returns-then-not-fits_in : goal.returns-then-not-fits_in
returns-then-not-fits_in c = let b = c.args in laid-unfit b.a b.image.now b.size b.groups.now b.fragments.now b.c b.pool.now b.words.now b.w.now _ c.fits_in.ensures (ap not c.if-not-fits_in.true)

pub returns-then-f-eq0 : goal.returns-then-f-eq0
returns-then-f-eq0 c = let b = c.args in laid_empty b.a b.image.now b.size b.groups.now b.fragments.now b.c b.pool.now b.words.now b.w.now (c.form_of-f.ensures (is_fit _ c.fits_in.ensures (ap not c.if-not-fits_in.false))) c.if-f-eq0.true

pub returns-then-not-has_room : goal.returns-then-not-has_room
returns-then-not-has_room c = let b = c.args in laid_full b.a b.image.now b.size b.groups.now b.fragments.now b.c b.pool.now b.words.now b.w.now (c.form_of-f.ensures (is_fit _ c.fits_in.ensures (ap not c.if-not-fits_in.false))) c.if-f-eq0.false _ c.has_room.ensures (ap not c.if-not-has_room.true)

pub returns-in_default : goal.returns-in_default
returns-in_default c = let b = c.args in laid_outside b.a b.image.now b.size b.groups.now b.fragments.now b.c b.pool.now b.words.now b.w.now (c.form_of-f.ensures (is_fit _ c.fits_in.ensures (ap not c.if-not-fits_in.false))) c.if-f-eq0.false c.total_of.ensures c.in_default.is

pub lay_records-requires : goal.lay_records-requires
lay_records-requires c =
    let o = (c.form_of-f.ensures (is_fit _ c.fits_in.ensures (ap not c.if-not-fits_in.false))) in
    let t = c.total_of.ensures in
    let k = c.in-Some.is in
    let r = c.has_room.ensures.yes (c.if-not-has_room.false) in
    (form_readable o c.if-f-eq0.false c.args.fragments.now t k, form_formed o c.if-f-eq0.false r, (t.yes _ k).1)

pub returns : goal.returns
returns c = let b = c.args in laid-blocks b.a b.image.now b.size b.groups.now b.fragments.now b.c b.pool.now b.words.now b.w.now (c.form_of-f.ensures (is_fit _ c.fits_in.ensures (ap not c.if-not-fits_in.false))) c.if-f-eq0.false c.lay_records.ensures
