-- What is known, or what was found.
use Rattle.std.proofs.Common.{rules}
use Rattle.writing.specs.OwnLaws.{know_again, know_other, know_new}
use Rattle.writing.proofs.own.known_of.Goals as goal

pub returns-then-known-d : goal.returns-then-known-d
returns-then-known-d c = know_again c.requires c.if-known-d.true

pub returns-then-known-d-2 : goal.returns-then-known-d-2
returns-then-known-d-2 c = know_other c.requires c.if-known-d-2.true

pub returns : goal.returns
returns c = know_new c.requires c.own_of-found.ensures
