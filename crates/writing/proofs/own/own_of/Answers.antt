-- What is found one after the other.
use Rattle.std.proofs.Common.{arith, rules}
use Rattle.writing.specs.OwnLaws.{past-few, own_is}
use Rattle.writing.proofs.own.own_of.Goals as goal

pub overflow_add-past : goal.overflow_add-past
overflow_add-past c = let h = past-few _ _ _ c.past_dg-past.ensures.0 in omega arith

pub returns : goal.returns
returns c =
    own_is _ _ _ _ c.past_dg-past.ensures.0 c.rest_of-rest.ensures.1 c.min-end.ensures c.word.ensures c.saturating_sub.ensures c.min-begin.ensures
    c.past_dg-past.ensures.1 c.rest_of-rest.ensures.0
