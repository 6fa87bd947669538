-- Past the last there is none.
use Rattle.thinning.specs.ColumnLaws.{next_no, next_yes}
use borrow.Author.Rules.{rules}
use Rattle.thinning.proofs.column.next_place.Goals as goal

pub returns-then-file-k : goal.returns-then-file-k
returns-then-file-k c = next_no _ _ _ c.if-file-k.true

pub returns-else-file-k : goal.returns-else-file-k
returns-else-file-k c = next_yes _ _ _ c.if-file-k.false
