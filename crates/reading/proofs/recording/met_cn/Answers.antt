-- Each way out is one case of the definition.
use Rattle.fields.specs.AnswerLaws.{passed_on}
use Rattle.reading.specs.VisitLaws.{cn_refused, cn_called, cn-indexed}
use Rattle.reading.proofs.recording.met_cn.Goals as goal

pub returns-in_err-visit : goal.returns-in_err-visit
returns-in_err-visit c =
    rw (passed_on _ _ c.from_residual.ensures) (record { met = cn_refused _ _ _ _ _ _ c.visit.ensures.met c.in_err-visit.was; indexed = tt })

pub returns : goal.returns
returns c = record { met = cn_called _ _ _ _ _ _ c.visit.ensures.met c.in_ok-visit.was c.link_at.ensures c.name_at.result c.name_at.ensures; indexed = cn-indexed _ c.name_at.result _ _ _ c.visit.ensures.indexed c.in_ok-visit.was }
