-- The words are there.
use Rattle.std.proofs.Common.{rules}
use Rattle.writing.proofs.placed.next_place.Goals as goal

pub returns : goal.returns
returns c = c.place_after.ensures c.requires.0.few c.requires.0.long
