-- Past 2^59 at one of two stages, or the attachments after the columns' data.
use Rattle.arranging.specs.LayingLaws.{ends_at, ends-over, placed-at, placed-over, next_near, rest_over, rest-past, rest-placed}
use native.Mathlib.Omega.{arith}
use borrow.Author.Rules.{rules}
use Rattle.arranging.proofs.layout.place_rest.Goals as goal

pub structure_end-requires : goal.structure_end-requires
structure_end-requires c = (next_near c.args.state c.requires.2 (c.aligned-a.ensures (omega (arith, c.requires.2))))

pub attach_over-requires : goal.attach_over-requires
attach_over-requires c = (c.requires.0, c.requires.1, c.args.file.now.near)

pub place_columns-requires : goal.place_columns-requires
place_columns-requires c = let e = ends_at _ _ c.structure_end.ensures c.in-Some.is in (c.requires.0, e.1, omega (arith, e.0, e.1))

pub attach_over-requires-in_default-place_columns : goal.attach_over-requires-in_default-place_columns
attach_over-requires-in_default-place_columns c = (omega (arith, c.place_columns.auto.memo, c.requires.0), c.requires.1, c.args.file.now.near)

pub attach_all-requires : goal.attach_all-requires
attach_all-requires c = (record { words = omega (arith, c.place_columns.auto.memo, c.requires.0); limit = omega arith; few = c.requires.1; near = (placed-at _ _ _ _ _ _ _ _ _ c.place_columns.ensures c.in-Some-place_columns.is).near }, c.args.file.now.near)

pub returns-in_default : goal.returns-in_default
returns-in_default c = rest_over c.args.file.now.unit c.args.file.now.image.now c.args.file.now.columns.now c.args.file.now.count c.args.out c.args.memo.now c.args.state (c.aligned-a.ensures (omega (arith, c.requires.2))) c.attach_over.new.memo c.attach_over.result c.args.file.now.on_unit c.attach_over.ensures (ends-over _ _ c.structure_end.ensures c.in_default.is)

pub returns-in_default-place_columns : goal.returns-in_default-place_columns
returns-in_default-place_columns c = rest-past c.args.file.now.unit c.args.file.now.image.now c.args.file.now.columns.now c.args.file.now.count c.args.out c.args.memo.now c.args.state (c.aligned-a.ensures (omega (arith, c.requires.2))) (ends_at _ _ c.structure_end.ensures c.in-Some.is).0 c.attach_over-in_default-place_columns.new.memo c.attach_over-in_default-place_columns.result (placed-over _ _ _ _ _ _ _ _ _ c.place_columns.ensures c.in_default-place_columns.is) c.requires.1 c.attach_over-in_default-place_columns.ensures

pub returns : goal.returns
returns c = rest-placed c.args.file.now.unit c.args.file.now.image.now c.args.file.now.columns.now c.args.file.now.count c.args.out c.args.memo.now c.args.state (c.aligned-a.ensures (omega (arith, c.requires.2))) (ends_at _ _ c.structure_end.ensures c.in-Some.is).0 (placed-at _ _ _ _ _ _ _ _ _ c.place_columns.ensures c.in-Some-place_columns.is) c.requires.1 c.attach_all.new.memo c.attach_all.result c.attach_all.ensures
