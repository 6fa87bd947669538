-- None without a master.
use Rattle.planning.specs.ComparedLaws.{key_none, key_some}
use borrow.Author.Tests.{eq-eqb}
use Rattle.planning.proofs.compared.shares_key.Goals as goal

pub returns-else-f-ne0 : goal.returns-else-f-ne0
returns-else-f-ne0 c = rw (eq-eqb _ _ c.if-f-ne0.false) (key_none _ _ _ c.if-f-ne0.false)

pub returns-then-f-ne0 : goal.returns-then-f-ne0
returns-then-f-ne0 c = key_some _ _ _ c.if-f-ne0.true c.key_same.ensures
