-- The two ways of the definition.
use Rattle.records.specs.CountLaws.{quotient-none, quotient-some}
use Rattle.records.proofs.sorted.quotient_of.Goals as goal

pub returns-then-m-eq0 : goal.returns-then-m-eq0
returns-then-m-eq0 c = quotient-none _ _ c.if-m-eq0.true

pub returns : goal.returns
returns c = quotient-some _ _ c.if-m-eq0.false
