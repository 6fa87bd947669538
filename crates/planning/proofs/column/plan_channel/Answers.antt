-- The decision gives the omission or the column, and its words.
use Rattle.planning.specs.ChannelLaws.{channel_refused, channel-omitted, channel_bounds, channel-kept}
use native.Mathlib.Omega.{arith}
use Rattle.std.proofs.Common.{Ok, ap, ◌∙◌}
use Rattle.fields.specs.AnswerLaws.{passed_on}
use Rattle.planning.proofs.column.plan_channel.Goals as goal

pub overflow_sub-own : goal.overflow_sub-own
overflow_sub-own c = omega (
  arith,
  channel_bounds _ _ _ _ _ _ _
      c.decide.result
      c.decide.new.fragments
      c.decide.ensures (c.in_ok-decision.was ∙ ap Ok c.in-Kept.is)
      (omega arith),
)

pub returns-in_err-decision : goal.returns-in_err-decision
returns-in_err-decision c =
    rw (passed_on _ _ c.from_residual.ensures) (channel_refused _ _ _ _ _ _ _ _ _ _ _ _ _ _ c.decide.ensures c.in_err-decision.was)

pub returns-in-Omitted : goal.returns-in-Omitted
returns-in-Omitted c = channel-omitted _ _ _ _ _ _ _ _ _ _ _ _ _ _
    c.decide.ensures (c.in_ok-decision.was ∙ ap Ok c.in-Omitted.is) c.from.ensures (omega arith) c.put_omission.ensures

pub returns-in-Kept : goal.returns-in-Kept
returns-in-Kept c = channel-kept _ _ _ _ _ _ _ _ _ _ _ _ _ _
    c.decide.ensures (c.in_ok-decision.was ∙ ap Ok c.in-Kept.is) (omega arith)
    c.signal_word-word.ensures c.put_column.ensures
