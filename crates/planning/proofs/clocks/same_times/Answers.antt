-- Other keys, or the cells are compared.
use Rattle.planning.specs.ClocksLaws.{same-other, same-cells}
use Rattle.planning.proofs.clocks.same_times.Goals as goal

pub returns-then-shares_key : goal.returns-then-shares_key
returns-then-shares_key c = same-cells c.shares_key.ensures
    c.if-shares_key.true _ _ _ _
    c.words_from-groups.ensures
    c.words_from-own.ensures c.words_from-others.ensures
    c.words_from-pieces.ensures
    c.clock_of-a.ensures c.clock_of-b.ensures c.times_same.ensures

pub returns : goal.returns
returns c = same-other c.shares_key.ensures c.if-shares_key.false
