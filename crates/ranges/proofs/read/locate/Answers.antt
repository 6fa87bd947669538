-- A refusal, no bytes, or inside a block.
use Rattle.fields.specs.AnswerLaws.{passed_on}
use Rattle.ranges.specs.ReadLaws.{locate_refused, locate_none, locate_fills, locate_some, none_of, of_none}
use Rattle.ranges.proofs.read.locate.Goals.{then-count-eq0-via-then-count-eq0, then-count-eq0-via-else-count-eq0+then-w-eq0}
use Rattle.ranges.proofs.read.locate.Goals as goal

pub returns-in_err-granted : goal.returns-in_err-granted
returns-in_err-granted c = rw (passed_on _ _ c.from_residual.ensures) (locate_refused _ _ _ _ c.ask.ensures c.in_err-granted.was)

pub returns-then-count-eq0 : goal.returns-then-count-eq0
returns-then-count-eq0 c = elim c.then-count-eq0.branch [
  | then-count-eq0-via-then-count-eq0 w ↦ locate_none _ _ _ _ c.ask.ensures c.in_ok-granted.was c.record_bytes-w.ensures.is (none_of _ _ w.if-count-eq0.true)
  | then-count-eq0-via-else-count-eq0+then-w-eq0 w ↦ locate_none _ _ _ _ c.ask.ensures c.in_ok-granted.was c.record_bytes-w.ensures.is (of_none _ _ w.if-w-eq0.true)
]

pub within_block-requires : goal.within_block-requires
within_block-requires c = locate_fills _ _ _ _ c.ask.ensures c.in_ok-granted.was c.record_bytes-w.ensures.is c.record_bytes-w.ensures.small c.if-count-eq0.false c.if-w-eq0.false

pub returns : goal.returns
returns c = locate_some _ _ _ _ c.ask.ensures c.in_ok-granted.was c.record_bytes-w.ensures.is c.if-count-eq0.false c.if-w-eq0.false c.within_block.ensures
