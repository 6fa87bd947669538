-- What is noted of the items, then all groups by it.
use Rattle.index.specs.IndexLaws.{index_begin}
use borrow.Author.Rules.{rules}
use Rattle.planning.proofs.planned.plan_groups.Goals as goal

pub note_items-requires : goal.note_items-requires
note_items-requires c = (search rules, search rules, index_begin _ _)

pub returns : goal.returns
returns c = c.plan_noted.ensures
