-- One block after the other.
use Rattle.window_structure.specs.ColumnLaws.{laid-column}
use Rattle.window_structure.proofs.column.lay_column.Goals as goal

pub returns : goal.returns
returns c = laid-column _ _ _ _ _ _ _ c.lay_column_dg.ensures c.lay_column_cg.ensures c.lay_column_cn.ensures c.lay_column_dl.ensures
