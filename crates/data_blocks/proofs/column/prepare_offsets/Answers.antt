-- They stood there, or come to stand.
use Rattle.data_blocks.specs.WrittenLaws.{prepares_known, prepares_new}
use Rattle.data_blocks.proofs.column.prepare_offsets.Goals as goal

pub returns-then-before : goal.returns-then-before
returns-then-before c = prepares_known c.offsets_of-before.ensures

pub returns : goal.returns
returns c = prepares_new c.fill_offsets.ensures c.offsets_of.ensures
