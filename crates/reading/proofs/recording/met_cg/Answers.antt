-- Each way out is one case of the definition; a CG that was taken has room among the groups.
use native.Mathlib.Omega.{arith}
use Rattle.fields.specs.AnswerLaws.{passed_on}
use Rattle.index.specs.MetLaws.{indexed_set}
use Rattle.reading.specs.VisitLaws.{index_fine, cg-room, cg_refused, cg_unnamed, cg-named}
use Rattle.reading.proofs.recording.met_cg.Goals as goal

pub returns-in_err-visit : goal.returns-in_err-visit
returns-in_err-visit c =
    rw (passed_on _ _ c.from_residual.ensures) (record { met = cg_refused _ _ _ _ _ _ c.visit.ensures.met c.in_err-visit.was; indexed = tt })

pub returns-in_err-name_at : goal.returns-in_err-name_at
returns-in_err-name_at c =
    rw (passed_on _ _ c.from_residual-in_err-name_at.ensures)
    (record { met = cg_unnamed _ _ _ _ _ _ c.visit.ensures.met c.in_ok-visit.was c.link_at.ensures c.name_at.ensures c.in_err-name_at.was; indexed = tt })

pub overflow_add-source : goal.overflow_add-source
overflow_add-source c = let l = cg-room _ _ _ _ _ _ c.visit.ensures.met c.in_ok-visit.was in omega arith

pub offset_bounds-source-m : goal.offset_bounds-source-m
offset_bounds-source-m c = let l = cg-room _ _ _ _ _ _ c.visit.ensures.met c.in_ok-visit.was in omega arith

pub bounds-source-m : goal.bounds-source-m
bounds-source-m c = let l = cg-room _ _ _ _ _ _ c.visit.ensures.met c.in_ok-visit.was in omega arith

pub returns : goal.returns
returns c = record { met = cg-named _ _ _ _ _ _ c.visit.ensures.met c.in_ok-visit.was c.link_at.ensures c.name_at.ensures c.in_ok-name_at.was; indexed = indexed_set _ _ _ _ _ (omega arith) (index_fine _ _ _ _ c.visit.ensures.indexed c.in_ok-visit.was) }
