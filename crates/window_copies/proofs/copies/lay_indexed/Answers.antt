-- The indices are those of the words.
use Rattle.window_copies.proofs.copies.lay_indexed.Goals as goal

pub returns : goal.returns
returns c = λ g l. c.lay_copies_by.ensures g c.index_copies-index.ensures c.index_chain-chained.ensures l
