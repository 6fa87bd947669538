-- 25, the refusal of opening, the columns in the words, or nothing to do.
use Rattle.std.proofs.Common.{arith, ◌∙◌, ap, sym}
use Rattle.ranges.specs.declared.plot.Plotting.{Plotting}
use Rattle.ranges.proofs.TurnLaws.{never, start-many, start_none, start_refused, start_fine, start-holds}
use Rattle.ranges.proofs.plot.begin.Goals as goal

pub returns-then-n-gt256 : goal.returns-then-n-gt256
returns-then-n-gt256 c =
    λ long. (c.refused.ensures ∙ start-many c.args.image.now c.args.n c.if-n-gt256.true, λ some q. never (sym (ap Plotting.accepted c.refused.ensures) ∙ q))

pub returns-in-Err : goal.returns-in-Err
returns-in-Err c = λ long. (
  c.refused-in-Err.ensures
      ∙ start_refused c.args.image.now c.open_columns.new.source c.args.n c.if-n-gt256.false c.if-n-gt0.true (c.open_columns.ensures long) c.in-Err.is,
  λ some q. never (sym (ap Plotting.accepted c.refused-in-Err.ensures) ∙ q),
)

pub returns-in_default : goal.returns-in_default
returns-in_default c = λ long. (
  start_fine c.args.image.now c.open_columns.new.source c.args.n c.if-n-gt256.false c.if-n-gt0.true (c.open_columns.ensures long) c.in_default.is,
  λ some q.
      start-holds c.args.image.now c.open_columns.new.source c.args.n c.if-n-gt256.false c.if-n-gt0.true (c.open_columns.ensures long) c.in_default.is,
)

pub returns-else-n-gt0 : goal.returns-else-n-gt0
returns-else-n-gt0 c = λ long. (start_none c.args.image.now c.args.n c.if-n-gt0.false, λ some q. absurd (omega arith))
