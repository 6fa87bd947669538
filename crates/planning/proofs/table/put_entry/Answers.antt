-- The words of the entry.
use Rattle.planning.specs.TableLaws.{put_entry_lem}
use Rattle.planning.proofs.table.put_entry.Goals as goal

pub returns : goal.returns
returns c = put_entry_lem _ _ _ _ _ _ _ _ c.own_of-master.ensures
    c.word-records.ensures c.put_column.ensures
