-- Link 6 leads nowhere, past the image, to a CG, or elsewhere.
use Rattle.fields.specs.AnswerLaws.{passed_on}
use Rattle.deciding.specs.DecideLaws.{stored-none, stored_refused, stored-group, stored_other}
use Rattle.deciding.proofs.storage.Goals as goal

pub returns-then-a-eq0 : goal.returns-then-a-eq0
returns-then-a-eq0 c = stored-none _ _ c.if-a-eq0.true

pub returns-in_err-header_in : goal.returns-in_err-header_in
returns-in_err-header_in c = rw (passed_on _ _ c.from_residual.ensures) (stored_refused _ _ c.if-a-eq0.false c.header_in.ensures c.in_err-header_in.was)

pub returns-then-kind_at-eq-CG : goal.returns-then-kind_at-eq-CG
returns-then-kind_at-eq-CG c = stored-group _ _ c.if-a-eq0.false c.header_in.ensures c.in_ok-header_in.was c.kind_at.ensures c.if-kind_at-eq-CG.true

pub returns : goal.returns
returns c = stored_other _ _ c.if-a-eq0.false c.header_in.ensures c.in_ok-header_in.was c.kind_at.ensures c.if-kind_at-eq-CG.false
