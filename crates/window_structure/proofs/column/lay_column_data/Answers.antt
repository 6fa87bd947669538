-- Apart from the window there is nothing to do; else it is the column's data.
use mathlib.Core.Path.{refl}
use Rattle.window_blocks.specs.ApartLaws.{apart_same}
use Rattle.window_structure.specs.ColumnLaws.{data_few, laid_data}
use Rattle.window_structure.proofs.column.lay_column_data.Goals as goal

pub returns-then-apart : goal.returns-then-apart
returns-then-apart c = apart_same _ _ 72 _ _ _ (c.apart.ensures c.if-apart.true) refl (data_few _ c.args.h)

pub returns : goal.returns
returns c = laid_data _ c.args.h _ _ _ _ c.lay_cn_data.ensures c.keeps_inval-keeps.ensures
