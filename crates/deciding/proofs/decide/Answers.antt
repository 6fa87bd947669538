-- The tests are those of the definition, in its order.
use mathlib.Core.Path.{ap, ◌∙◌}
use Rattle.std.specs.Prelude.{Ok}
use Rattle.fields.specs.AnswerLaws.{passed_on}
use Rattle.plan.specs.Columns.{stored_at}
use Rattle.deciding.specs.DecideLaws.{
  chain-of,
  left_refused,
  left-omitted,
  left-same,
  test_none,
  test_found,
  test_stopped,
  reason_some,
  pass,
  omit,
  stop,
  referred_no,
  referred_yes,
  omit_type_4,
  omit_type_8,
  omit_unfit,
  omit_master,
  past_masters,
}
use Rattle.deciding.proofs.decide.Goals as goal

pub returns-then-treated-eq4 : goal.returns-then-treated-eq4
returns-then-treated-eq4 c = left-omitted _ _ (omit_type_4 _ _ _ _ _ _ c.channel_type-t.ensures.is c.treatment_of-treated.ensures c.if-treated-eq4.true)

pub returns-then-treated-eq8 : goal.returns-then-treated-eq8
returns-then-treated-eq8 c = left-omitted _ _ (omit_type_8 _ _ _ _ _ _ c.channel_type-t.ensures.is c.treatment_of-treated.ensures c.if-treated-eq4.false c.if-treated-eq8.true)

pub returns-then-not-fits_in : goal.returns-then-not-fits_in
returns-then-not-fits_in c = left-omitted _ _ (omit_unfit _ _ _ _ _ _ c.channel_type-t.ensures.is c.treatment_of-treated.ensures c.if-treated-eq4.false c.if-treated-eq8.false c.fits_in.ensures c.if-not-fits_in.true)

pub returns-then-is_master_type : goal.returns-then-is_master_type
returns-then-is_master_type c =
    left-omitted _ _
    (omit_master _ _ _ _ _ _ c.channel_type-t.ensures.is c.treatment_of-treated.ensures c.if-treated-eq4.false c.if-treated-eq8.false c.fits_in.ensures c.if-not-fits_in.false c.is_master_type.ensures c.if-is_master_type.true)

pub returns-in_err-reason : goal.returns-in_err-reason
returns-in_err-reason c =
    rw (passed_on _ _ c.from_residual.ensures)
    (left_refused _ _
    (past_masters _ _ _ _ _ _ c.channel_type-t.ensures.is c.treatment_of-treated.ensures c.if-treated-eq4.false c.if-treated-eq8.false c.fits_in.ensures c.if-not-fits_in.false c.is_master_type.ensures
    c.if-is_master_type.false (stop _ _ (test_stopped c.composition.ensures c.in_err-reason.was))))

pub returns-in-Some : goal.returns-in-Some
returns-in-Some c =
    left-omitted _ _
    (past_masters _ _ _ _ _ _ c.channel_type-t.ensures.is c.treatment_of-treated.ensures c.if-treated-eq4.false c.if-treated-eq8.false c.fits_in.ensures c.if-not-fits_in.false c.is_master_type.ensures
    c.if-is_master_type.false (omit _ _ (test_found c.composition.ensures (c.in_ok-reason.was ∙ ap Ok c.in-Some.is)) (reason_some _)))

pub returns-in_err-reason-2 : goal.returns-in_err-reason-2
returns-in_err-reason-2 c =
    rw (passed_on _ _ c.from_residual-in_err-reason-2.ensures)
    (left_refused _ _
    (past_masters _ _ _ _ _ _ c.channel_type-t.ensures.is c.treatment_of-treated.ensures c.if-treated-eq4.false c.if-treated-eq8.false c.fits_in.ensures c.if-not-fits_in.false c.is_master_type.ensures
    c.if-is_master_type.false (pass _ _ (test_none c.composition.ensures (c.in_ok-reason.was ∙ ap Ok c.in_default.is))
    (stop _ _ (test_stopped (c.storage.ensures ∙ ap (stored_at _) c.signal_link-a.ensures) c.in_err-reason-2.was)))))

pub returns-in-Some-2 : goal.returns-in-Some-2
returns-in-Some-2 c =
    left-omitted _ _
    (past_masters _ _ _ _ _ _ c.channel_type-t.ensures.is c.treatment_of-treated.ensures c.if-treated-eq4.false c.if-treated-eq8.false c.fits_in.ensures c.if-not-fits_in.false c.is_master_type.ensures
    c.if-is_master_type.false (pass _ _ (test_none c.composition.ensures (c.in_ok-reason.was ∙ ap Ok c.in_default.is))
    (omit _ _ (test_found (c.storage.ensures ∙ ap (stored_at _) c.signal_link-a.ensures) (c.in_ok-reason-2.was ∙ ap Ok c.in-Some-2.is)) (reason_some _))))

pub returns-in_err-photos_in : goal.returns-in_err-photos_in
returns-in_err-photos_in c =
    rw (passed_on _ _ c.from_residual-in_err-photos_in.ensures)
    (left_refused _ _
    (past_masters _ _ _ _ _ _ c.channel_type-t.ensures.is c.treatment_of-treated.ensures c.if-treated-eq4.false c.if-treated-eq8.false c.fits_in.ensures c.if-not-fits_in.false c.is_master_type.ensures
    c.if-is_master_type.false (pass _ _ (test_none c.composition.ensures (c.in_ok-reason.was ∙ ap Ok c.in_default.is))
    (pass _ _ (test_none (c.storage.ensures ∙ ap (stored_at _) c.signal_link-a.ensures) (c.in_ok-reason-2.was ∙ ap Ok c.in_default-2.is))
    (referred_no _ _ c.photos_in.ensures c.in_err-photos_in.was)))))

pub returns : goal.returns
returns c =
    left-same _ _
    (past_masters _ _ _ _ _ _ c.channel_type-t.ensures.is c.treatment_of-treated.ensures c.if-treated-eq4.false c.if-treated-eq8.false c.fits_in.ensures c.if-not-fits_in.false c.is_master_type.ensures
    c.if-is_master_type.false (pass _ _ (test_none c.composition.ensures (c.in_ok-reason.was ∙ ap Ok c.in_default.is))
    (pass _ _ (test_none (c.storage.ensures ∙ ap (stored_at _) c.signal_link-a.ensures) (c.in_ok-reason-2.was ∙ ap Ok c.in_default-2.is))
    (referred_yes _ _ c.photos_in.ensures c.in_ok-photos_in.was ∙ chain-of _ _ _ _ c.signal_link-a.ensures))))
    c.decide_chain.ensures
