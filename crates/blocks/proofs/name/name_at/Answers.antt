-- The refusal of the header is passed on; then the kind decides whether the text is checked.
use native.Mathlib.Omega.{arith}
use Rattle.fields.specs.AnswerLaws.{passed_on}
use Rattle.blocks.specs.NameLaws.{name_none, name_refused, name-TX, name-MD, name_other}
use Rattle.blocks.proofs.name.name_at.Goals as goal

pub returns-then-a-eq0 : goal.returns-then-a-eq0
returns-then-a-eq0 c = name_none _ _ (omega arith)

pub returns-in_err-header_in : goal.returns-in_err-header_in
returns-in_err-header_in c = rw (passed_on _ _ c.from_residual.ensures) (name_refused _ _ c.header_in.ensures (omega arith) c.in_err-header_in.was)

pub returns-then-kind-eq-TX : goal.returns-then-kind-eq-TX
returns-then-kind-eq-TX c =
    name-TX _ _ c.header_in.ensures (omega arith)
    c.in_ok-header_in.was c.kind_at-kind.ensures (omega arith) c.text_in.ensures

pub returns-then-kind-eq-MD : goal.returns-then-kind-eq-MD
returns-then-kind-eq-MD c =
    name-MD _ _ c.header_in.ensures (omega arith)
    c.in_ok-header_in.was c.kind_at-kind.ensures (omega arith)
    c.text_in-then-kind-eq-MD.ensures

pub returns : goal.returns
returns c =
    name_other _ _ c.header_in.ensures (omega arith)
    c.in_ok-header_in.was c.kind_at-kind.ensures (omega arith) (omega arith)
