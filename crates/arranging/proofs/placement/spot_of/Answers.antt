-- Data blocks and SD one behind the other; past 2^59 nothing is told.
use Rattle.arranging.specs.SpotsLaws.{first_near_lem, spot_over, sd_near_lem, signal_over_lem, spot_at}
use native.Mathlib.Omega.{arith}
use borrow.Author.Rules.{rules}
use Rattle.arranging.proofs.placement.spot_of.Goals as goal

pub blocks_end-past-requires : goal.blocks_end-past-requires
blocks_end-past-requires c = (c.requires.0, omega (arith, first_near_lem c.args.file.now.unit c.args.file.now.image.now c.args.file.now.columns.now c.args.p c.args.d c.args.file.now.on_unit c.word.ensures c.blocks_of-blocks.ensures c.start_of-first.ensures, c.requires.1))

pub returns-then-past-gt576460752303423488 : goal.returns-then-past-gt576460752303423488
returns-then-past-gt576460752303423488 c = spot_over _ _ _ _ _ c.args.file.now.on_unit c.word.ensures c.blocks_of-blocks.ensures c.start_of-first.ensures c.blocks_end-past.ensures c.if-past-gt576460752303423488.true

pub signal_end-end-requires : goal.signal_end-end-requires
signal_end-end-requires c = (c.requires.0, omega (arith, sd_near_lem c.args.file.now.unit c.args.file.now.image.now c.args.file.now.columns.now c.args.p c.args.d c.args.file.now.on_unit c.word.ensures c.blocks_of-blocks.ensures c.start_of-first.ensures c.blocks_end-past.ensures c.if-past-gt576460752303423488.false c.word-2.ensures c.start_of-sd.ensures, c.if-past-gt576460752303423488.false))

pub returns-then-end-gt576460752303423488 : goal.returns-then-end-gt576460752303423488
returns-then-end-gt576460752303423488 c = signal_over_lem _ _ _ _ _ c.args.file.now.on_unit c.word.ensures c.blocks_of-blocks.ensures c.start_of-first.ensures c.blocks_end-past.ensures c.if-past-gt576460752303423488.false c.word-2.ensures c.start_of-sd.ensures c.signal_end-end.ensures c.if-end-gt576460752303423488.true

pub returns : goal.returns
returns c = spot_at _ _ _ _ _ c.args.file.now.on_unit c.word.ensures c.blocks_of-blocks.ensures c.start_of-first.ensures c.blocks_end-past.ensures c.if-past-gt576460752303423488.false c.word-2.ensures c.start_of-sd.ensures c.signal_end-end.ensures c.if-end-gt576460752303423488.false
