-- By whether the fragment is of the kind asked for.
use Rattle.records.specs.CountLaws.{own, other}
use Rattle.records.proofs.sorted.own_bytes.Goals as goal

pub returns-then-is_dv-dv : goal.returns-then-is_dv-dv
returns-then-is_dv-dv c = own _ _ c.is_dv.ensures c.args.dv c.if-is_dv-dv.true c.word_at.ensures

pub returns : goal.returns
returns c = other _ _ c.is_dv.ensures c.args.dv c.if-is_dv-dv.false
