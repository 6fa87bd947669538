-- 27 exactly where size or entries are wrong.
use Rattle.choices.specs.TableLaws.{table_fine, table_entries, table_size}
use Rattle.choices.proofs.table_in.Goals as goal

pub returns-then-are_entries : goal.returns-then-are_entries
returns-then-are_entries c =
    table_fine _ c.is_sized.ensures c.if-is_sized.true
    c.field_at.ensures c.are_entries.ensures c.if-are_entries.true

pub returns-else-are_entries : goal.returns-else-are_entries
returns-else-are_entries c =
    table_entries _ c.is_sized.ensures c.if-is_sized.true
    c.field_at.ensures c.are_entries.ensures c.if-are_entries.false

pub returns-else-is_sized : goal.returns-else-is_sized
returns-else-is_sized c = table_size _ c.is_sized.ensures c.if-is_sized.false
