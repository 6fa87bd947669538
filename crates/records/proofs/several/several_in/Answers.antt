-- The checks in order; a refusal is passed on.
use Rattle.records.specs.SeveralLaws.{several_equal, several_missing, several_dv, several_out, several_size}
use Rattle.blocks.specs.AnswerLaws.{so_fine, so_refused}
use Rattle.fields.specs.AnswerLaws.{passed_on}
use Rattle.records.proofs.several.several_in.Goals as goal

pub returns-then-equal_ids : goal.returns-then-equal_ids
returns-then-equal_ids c = several_equal _ _ _ _ c.equal_ids.ensures c.if-equal_ids.true

pub returns-then-id_size-eq0 : goal.returns-then-id_size-eq0
returns-then-id_size-eq0 c =
    several_missing _ _ _ _ c.equal_ids.ensures c.if-equal_ids.false
    c.id_size.ensures.is c.if-id_size-eq0.true

pub returns-then-any_dv : goal.returns-then-any_dv
returns-then-any_dv c =
    several_dv _ _ _ _ c.equal_ids.ensures
    c.if-equal_ids.false
    c.id_size.ensures.is c.if-id_size-eq0.false c.any_dv.ensures c.if-any_dv.true

pub returns-in_err-ranges_in : goal.returns-in_err-ranges_in
returns-in_err-ranges_in c =
    rw (passed_on _ _ c.from_residual.ensures)
    (several_out _ _ _ _ c.equal_ids.ensures c.if-equal_ids.false c.id_size.ensures.is c.if-id_size-eq0.false c.any_dv.ensures
    c.if-any_dv.false (so_refused c.ranges_in.ensures c.in_err-ranges_in.was))

pub returns : goal.returns
returns c =
    several_size _ _ _ _ c.equal_ids.ensures c.if-equal_ids.false c.id_size.ensures.is c.if-id_size-eq0.false c.any_dv.ensures
    c.if-any_dv.false (so_fine c.ranges_in.ensures c.in_ok-ranges_in.was) c.size_in.ensures
