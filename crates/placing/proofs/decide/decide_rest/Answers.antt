-- 2, 3, planning, layout.
use Rattle.placing.specs.DecisionLaws.{chosen_refused, chosen-fine, rest_unchosen, plans_done, plans_refused, lays_few, lays_within, laid-plan, rest_empty, rest_large, rest_unplanned, rest_unlaid, unlaid, rest_in, rest-shares}
use Rattle.plan_laws.specs.TableLaws.{choices_unit}
use Rattle.payload_laws.specs.UnitLaws.{unit_is}
use Rattle.fields.specs.AnswerLaws.{passed_on}
use Rattle.placing.proofs.decide.decide_rest.Goals as goal

pub returns-then-size-eq0 : goal.returns-then-size-eq0
returns-then-size-eq0 c = rest_empty _ _ _ _ c.if-size-eq0.true

pub returns-in_err-choices_in : goal.returns-in_err-choices_in
returns-in_err-choices_in c = rw (passed_on _ _ c.from_residual.ensures) (rest_unchosen _ _ _ _ c.if-size-eq0.false (chosen_refused _ c.choices_in.ensures c.in_err-choices_in.was))

pub returns-then-image-gt4294967296 : goal.returns-then-image-gt4294967296
returns-then-image-gt4294967296 c = rest_large _ _ _ _ c.if-size-eq0.false (chosen-fine _ c.choices_in.ensures c.in_ok-choices_in.was) c.if-image-gt4294967296.true

pub lay_out-requires : goal.lay_out-requires
lay_out-requires c =
    let t = plans_done _ _ _ _ _ _ _ _ _ _
    (c.plan.ensures c.if-image-gt4294967296.false)
    c.requires.0
    c.requires.1
    c.requires.2
    c.in_ok-planned.was in
    let h = c.if-image-gt4294967296.false
    in (
      lays_few t h
          c.requires.1
          c.requires.2,
      c.requires.3,
      h,
      c.requires.4,
      lays_within t h
          c.requires.1
          c.requires.2,
      (unit_is _ (choices_unit _ (chosen-fine _ c.choices_in.ensures c.in_ok-choices_in.was))).least,
      (unit_is _ (choices_unit _ (chosen-fine _ c.choices_in.ensures c.in_ok-choices_in.was))).most,
    )

pub returns-in_err-planned : goal.returns-in_err-planned
returns-in_err-planned c = rw (passed_on _ _ c.from_residual-in_err-planned.ensures) (rest_unplanned _ _ _ _ c.if-size-eq0.false (chosen-fine _ c.choices_in.ensures c.in_ok-choices_in.was)
    c.if-image-gt4294967296.false
    (plans_refused _ _ _ _ _ _ _ _ _ _ (c.plan.ensures c.if-image-gt4294967296.false)
    c.requires.0
    c.requires.1
    c.requires.2
    c.in_err-planned.was))

pub returns-in_err-numbers : goal.returns-in_err-numbers
returns-in_err-numbers c =
    let t = plans_done _ _ _ _ _ _ _ _ _ _
    (c.plan.ensures c.if-image-gt4294967296.false)
    c.requires.0
    c.requires.1
    c.requires.2
    c.in_ok-planned.was in
    rw (passed_on _ _ c.from_residual-in_err-numbers.ensures) (rest_unlaid _ _ _ _ c.if-size-eq0.false (chosen-fine _ c.choices_in.ensures c.in_ok-choices_in.was)
    c.if-image-gt4294967296.false
    t.is (unlaid _ _ _ _ (laid-plan t
    c.if-image-gt4294967296.false
    c.requires.1
    c.requires.2
    c.lay_out.ensures) c.in_err-numbers.was))

pub returns : goal.returns
returns c =
    let t = plans_done _ _ _ _ _ _ _ _ _ _
    (c.plan.ensures c.if-image-gt4294967296.false)
    c.requires.0
    c.requires.1
    c.requires.2
    c.in_ok-planned.was in (
      rest_in _ _ _ _ c.if-size-eq0.false (chosen-fine _ c.choices_in.ensures c.in_ok-choices_in.was)
          c.if-image-gt4294967296.false
          t (laid-plan t
          c.if-image-gt4294967296.false
          c.requires.1
          c.requires.2
          c.lay_out.ensures) c.in_ok-numbers.was,
      rest-shares _ _ _ _ t,
    )
