-- 1 of each kind, or what the rest decides.
use mathlib.Core.List.{[]}
use Rattle.plan.specs.Rules.{built_in}
use Rattle.placing.specs.DecisionLaws.{short-first, short-second, short_third, short_fourth, work_fine, short_work, lent_refused, text-fits, rest_refused, rest-decided, rests_refused, cleared-after, decided_is, decides_some}
use native.Mathlib.Omega.{arith}
use Rattle.fields.specs.AnswerLaws.{passed_on}
use Rattle.placing.proofs.decide.decide.Goals as goal
use Rattle.placing.proofs.decide.decide.Goals.{
  then-source-lt8192-via-then-source-lt8192,
  then-source-lt8192-via-else-source-lt8192+then-fragments-lt8192,
  then-source-lt8192-via-else-source-lt8192+else-fragments-lt8192+then-columns-lt8192,
  then-source-lt8192-via-else-source-lt8192+else-fragments-lt8192+else-columns-lt8192+then-copies-lt8192,
}

pub returns-then-source-lt8192 : goal.returns-then-source-lt8192
returns-then-source-lt8192 c = elim c.then-source-lt8192.branch [
  | then-source-lt8192-via-then-source-lt8192 w ↦
      short_work _ (short-first _ _ _ _ w.if-source-lt8192.true)
  | then-source-lt8192-via-else-source-lt8192+then-fragments-lt8192 w ↦
      short_work _ (short-second _ _ _ _ w.if-source-lt8192.false w.if-fragments-lt8192.true)
  | then-source-lt8192-via-else-source-lt8192+else-fragments-lt8192+then-columns-lt8192 w ↦
      short_work _ (short_third _ _ _ _ w.if-source-lt8192.false w.if-fragments-lt8192.false w.if-columns-lt8192.true)
  | then-source-lt8192-via-else-source-lt8192+else-fragments-lt8192+else-columns-lt8192+then-copies-lt8192 w ↦
      short_work _ (short_fourth _ _ _ _ w.if-source-lt8192.false w.if-fragments-lt8192.false w.if-columns-lt8192.false w.if-copies-lt8192.true)
]

pub returns-in_err-lent_in : goal.returns-in_err-lent_in
returns-in_err-lent_in c = rw (passed_on _ _ c.from_residual.ensures) (lent_refused _ _ _ _ _ _ (work_fine _ _ _ _ c.if-source-lt8192.false
    c.if-fragments-lt8192.false c.if-columns-lt8192.false
    c.if-copies-lt8192.false) _ c.lent_in.ensures c.in_err-lent_in.was)

pub decide_rest-found-requires : goal.decide_rest-found-requires
decide_rest-found-requires c = let a =
    c.args
    in (
      c.if-source-lt8192.false,
      c.if-fragments-lt8192.false,
      c.if-columns-lt8192.false,
      c.if-copies-lt8192.false,
      text-fits [] 0 _ _ built_in _ (work_fine a.source.now
          a.fragments.now a.columns.now a.copies.now
          c.if-source-lt8192.false
          c.if-fragments-lt8192.false
          c.if-columns-lt8192.false
          c.if-copies-lt8192.false) _
          c.lent_in.ensures
          c.in_ok-lent_in.was,
    )

pub returns-in-Err : goal.returns-in-Err
returns-in-Err c =
    let a = c.args
    in
    rest_refused _ _ _ _ _ _ (work_fine _ _ _ _
    c.if-source-lt8192.false
    c.if-fragments-lt8192.false
    c.if-columns-lt8192.false
    c.if-copies-lt8192.false)
    _ c.lent_in.ensures
    c.in_ok-lent_in.was
    (rests_refused _ _ _ _ _ _ _ _ _ _ _ _ _
    c.decide_rest-found.ensures
    c.in-Err.is)
    (cleared-after a.source.now a.fragments.now a.columns.now a.copies.now c.decide_rest-found.new.source c.decide_rest-found.new.fragments
    c.decide_rest-found.new.columns c.decide_rest-found.new.copies (omega arith) (omega arith) (omega arith) (omega arith) c.clear_all.ensures)

pub returns : goal.returns
returns c =
    let a = c.args
    in
    decides_some _ _ _ _ _ _ _ _ _ _ _ _ _ _
    c.decide_rest-found.ensures
    c.in_default.is
    (λ t. rest-decided _ _ _ _ _ _ (work_fine a.source.now a.fragments.now a.columns.now a.copies.now
    c.if-source-lt8192.false
    c.if-fragments-lt8192.false
    c.if-columns-lt8192.false
    c.if-copies-lt8192.false)
    _ c.lent_in.ensures
    c.in_ok-lent_in.was
    c.if-source-lt8192.false
    c.if-fragments-lt8192.false
    c.if-columns-lt8192.false
    c.if-copies-lt8192.false
    t)
    (decided_is _ _ _ _ _ _ (work_fine a.source.now a.fragments.now a.columns.now a.copies.now
    c.if-source-lt8192.false
    c.if-fragments-lt8192.false
    c.if-columns-lt8192.false
    c.if-copies-lt8192.false)
    _ c.lent_in.ensures
    c.in_ok-lent_in.was)
