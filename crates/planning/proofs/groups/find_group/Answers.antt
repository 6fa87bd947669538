-- The group by its item's words.
use Rattle.planning.specs.NotedLaws.{found_none, found-few, found-group}
use native.Mathlib.Omega.{arith}
use Rattle.planning.proofs.groups.find_group.Goals as goal

pub first_at-item-requires : goal.first_at-item-requires
first_at-item-requires c = (c.args.notes.few, c.args.notes.noted.index)

pub returns-then-item-eq0 : goal.returns-then-item-eq0
returns-then-item-eq0 c = found_none c.first_at-item.ensures c.if-item-eq0.true

pub overflow_add-number : goal.overflow_add-number
overflow_add-number c = let f = found-few c.first_at-item.ensures c.if-item-eq0.false c.args.notes.noted
    c.word-number.ensures in omega arith

pub returns : goal.returns
returns c = found-group c.first_at-item.ensures c.if-item-eq0.false
    c.args.notes.noted c.word-number.ensures c.word-records.ensures
    c.word-dg.ensures
