-- What was found is right for both.
use Rattle.std.proofs.Common.{rules}
use Rattle.writing.proofs.own.known_first.Goals as goal

pub returns : goal.returns
returns c = record { last = c.own_of-own.ensures; earlier = c.own_of-own.ensures }
