-- The words are there.
use Rattle.std.proofs.Common.{rules}
use Rattle.writing.proofs.placed.column_of.Goals as goal

pub returns : goal.returns
returns c = (c.column_at.ensures.1 c.requires.0 c.requires.1 c.requires.2, c.column_at.ensures.0.photos)
