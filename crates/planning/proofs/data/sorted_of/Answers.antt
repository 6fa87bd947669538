-- The lent part holds the fragments.
use Rattle.planning.specs.DataWordsLaws.{sorted_part}
use Rattle.planning.proofs.data.sorted_of.Goals as goal

pub returns : goal.returns
returns c = sorted_part _ _ _ _ _ _ c.min.ensures c.sorted_in.ensures
