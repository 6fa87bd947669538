-- Each way out is one case of the definition.
use native.Mathlib.Omega.{arith}
use Rattle.fields.specs.AnswerLaws.{passed_on}
use Rattle.index.specs.MetLaws.{index_stored}
use Rattle.reading.specs.VisitLaws.{visit_met, visit_refused, visit-taken, visit_full}
use Rattle.reading.proofs.recording.visit.Goals as goal

pub returns-then-is_met : goal.returns-then-is_met
returns-then-is_met c = record { met = visit_met _ _ _ _ _ _ _ (c.is_met.ensures (omega arith) (omega arith) c.requires.2) c.if-is_met.true; indexed = tt }

pub returns-in_err-block_at : goal.returns-in_err-block_at
returns-in_err-block_at c =
    rw (passed_on _ _ c.from_residual.ensures)
    (record { met = visit_refused _ _ _ _ _ _ _ (c.is_met.ensures (omega arith) (omega arith) c.requires.2) c.block_at.ensures c.if-is_met.false c.in_err-block_at.was; indexed = tt })

pub returns-then-m-ge512 : goal.returns-then-m-ge512
returns-then-m-ge512 c = record { met = visit_full _ _ _ _ _ _ _ (c.is_met.ensures (omega arith) (omega arith) c.requires.2) c.block_at.ensures c.if-is_met.false c.in_ok-block_at.was (omega arith); indexed = tt }

pub returns : goal.returns
returns c = record { met = visit-taken _ _ _ _ _ _ _ (c.is_met.ensures (omega arith) (omega arith) c.requires.2) c.block_at.ensures c.if-is_met.false c.in_ok-block_at.was (omega arith); indexed = rw (c.enter.ensures (omega arith)) (index_stored _ _ _ _ _ _ (omega arith) (omega arith) (omega arith) c.requires.2) }
