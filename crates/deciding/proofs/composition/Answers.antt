-- Link 2 leads nowhere, past the image, to an array, to a structure, or elsewhere.
use Rattle.fields.specs.AnswerLaws.{passed_on}
use Rattle.deciding.specs.DecideLaws.{composed-none, composed_refused, composed-array, composed-structure, composed-other}
use Rattle.deciding.proofs.composition.Goals as goal

pub returns-then-a-eq0 : goal.returns-then-a-eq0
returns-then-a-eq0 c = composed-none _ _ c.link_at-a.ensures c.if-a-eq0.true

pub returns-in_err-header_in : goal.returns-in_err-header_in
returns-in_err-header_in c =
    rw (passed_on _ _ c.from_residual.ensures)
    (composed_refused _ _ c.link_at-a.ensures c.if-a-eq0.false c.header_in.ensures c.in_err-header_in.was)

pub returns-then-kind-eq-CA : goal.returns-then-kind-eq-CA
returns-then-kind-eq-CA c = composed-array _ _ c.link_at-a.ensures c.if-a-eq0.false c.header_in.ensures c.in_ok-header_in.was c.kind_at-kind.ensures c.if-kind-eq-CA.true

pub returns-then-kind-eq-CN : goal.returns-then-kind-eq-CN
returns-then-kind-eq-CN c =
    composed-structure _ _ c.link_at-a.ensures c.if-a-eq0.false c.header_in.ensures c.in_ok-header_in.was c.kind_at-kind.ensures
    c.if-kind-eq-CA.false c.if-kind-eq-CN.true

pub returns : goal.returns
returns c =
    composed-other _ _ c.link_at-a.ensures c.if-a-eq0.false c.header_in.ensures c.in_ok-header_in.was c.kind_at-kind.ensures
    c.if-kind-eq-CA.false c.if-kind-eq-CN.false
