-- Its three parts, one after the other.
use Rattle.window_structure.specs.ColumnLaws.{laid-cn}
use Rattle.window_structure.proofs.column.lay_column_cn.Goals as goal

pub returns : goal.returns
returns c = laid-cn _ _ _ _ _ _ _ _ _ c.lay_front.ensures (c.lay_photos.ensures c.requires.photos c.args.copied.now.few c.args.copied.now.long) c.lay_column_data.ensures
